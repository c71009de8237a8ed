use lib.Seq.{length-take-le}
use Rattle.std.proofs.Common.{ℕ, ◌≡◌, ◌≤◌, take, ap, ◌∙◌, arith}
use Rattle.std.proofs.lemmas.List.Edits.{sets}
use Rattle.network.specs.File.{most_links, stride, link_at}
use Rattle.network.specs.Bytes.{standing}
use Rattle.network.proofs.Versions.{stride-four}
use Rattle.journal.specs.Listed.{table_graph}
use Rattle.journal.proofs.Files.{set-written}
use Rattle.journal.proofs.Turning.{full-most}
use Rattle.journal.proofs.asks.replay.Goals as goal

-- the links present have room in the output
room : (m o : ℕ) → m ≤ most_links → link_at 4 most_links ≤ o → link_at (stride 1) m ≤ o
room m o l h = let four : stride 1 ≡ 4 = stride-four (omega arith) in rw four (omega arith)

pub put_set-requires-clause-room : goal.put_set-requires-clause-room
put_set-requires-clause-room c =
    let tabled = c.run-tally.ensures.tabled in
    let most = full-most _ _ _ c.run-tally.new.work _ tabled in
    room _ _ (omega (arith, most, length-take-le c.run-tally.result.present.live c.run-tally.new.work (omega (arith, tabled.long, most)))) c.requires.room.0

pub returns-clause-present : goal.returns-clause-present
returns-clause-present c =
    let tabled = c.run-tally.ensures.tabled in
    let most = full-most _ _ _ c.run-tally.new.work _ tabled in
    set-written _ _ _ _ c.requires.few tabled.sound.present tabled.present (omega (arith, tabled.long, most)) _ _ (room _ _ (omega (arith, most)) c.requires.room.0)
    (c.put_set.ensures ∙ ap (λ n. sets c.args.out.now 0 (standing 1 (λ e. 0) (table_graph n (take c.run-tally.result.present.live c.run-tally.new.work)))) c.u16_at.ensures.0)
