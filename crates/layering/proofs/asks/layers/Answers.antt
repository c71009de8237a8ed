-- `layers` is refused, or makes the layers in the entries of both tables that are needed.
use Rattle.std.proofs.Common.{rules, ◌-◌, refl, ◌∙◌, arith}
use lib.Seq.{length-take-le}
use Rattle.network.specs.Calls as call
use Rattle.network.proofs.Answers.{call-told}
use Rattle.layering.proofs.LayersCalls.{layers_ready, layers-told}
use Rattle.layering.proofs.asks.layers.Goals as goal

pub returns-in_err-links : goal.returns-in_err-links
returns-in_err-links c = call-told _ (search rules) (search rules)

pub returns : goal.returns
returns c =
    let a = c.args in
    let links = c.in_ok-links.links in
    let told = c.in_ok-links.ensures in
    let none = rw (← told.passed.0, ← told.passed.1, ← told.passed.2) at told.none in
    let enough = layers_ready _ _ _ _ _ none in
    let n = c.size_of-size.result - 0 in
    let k = c.work_length-needed.result - 0 in
    rw (← told.passed.0, ← told.passed.1, ← told.passed.2)
    (call.accepted c.layer_links.result none refl
    (layers-told links.file.bytes.now links.a.now links.b.now a.layers.now c.layer_links.new.layers a.work.now c.layer_links.new.work {n = n} {k = k} enough.accepted.sound.closed (omega arith) (omega arith) (omega (arith, enough.layers), omega (arith, enough.work)) (
      c.layer_links.ensures.lengths.0 ∙ length-take-le n a.layers.now (omega (arith, enough.layers)),
      c.layer_links.ensures.lengths.1 ∙ length-take-le k a.work.now (omega (arith, enough.work)),
    ) c.layer_links.ensures.layering))
