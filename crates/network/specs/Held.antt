-- A network file by what it holds, and one that a call has written.
use Rattle.std.specs.Prelude.{ℕ, ◌<◌, ◌≤◌, List, ◌++◌, ◌↔◌, ◌≡◌, None, length, get_or, drop}
use Rattle.network.specs.File.{version_of, stride, link_at, kind_at, graph_of, LinkedAs, file_refusal}

-- a file of bytes that is accepted and not empty
pub record Filed (f : List ℕ) : Type 0 where
  pub bytes : (i : ℕ) → get_or f i 0 < 256
  pub some : 1 ≤ length f
  pub accepted : file_refusal f ≡ None

-- a file of n members that holds a link exactly where one of kind k is said to go from u to v; it is accepted, and so ordered
pub record FileOf (n : ℕ) (holds : ℕ → ℕ → ℕ → Type 0) (f : List ℕ) : Type 0 where
  pub accepted : file_refusal f ≡ None
  pub order : (graph_of f).order ≡ n
  pub linked : (u v k : ℕ) → LinkedAs (graph_of f) (kind_at f) u v k ↔ holds u v k

-- Such a file, of version v, in the first bytes of an output, with the later bytes as they were; m is that of this file. Its network is that of every such
-- file, of either version, and so are its findings, its layers, and all else that is said of a network.
pub record FileWritten (v n : ℕ) (holds : ℕ → ℕ → ℕ → Type 0) (out out' : List ℕ) (m : ℕ) : Type 0 where
  pub file : List ℕ
  pub front : out' ≡ file ++ drop (link_at (stride v) m) out
  pub long : length file ≡ link_at (stride v) m
  pub version : version_of file ≡ v
  pub filed : Filed file
  pub held : FileOf n holds file
  pub size : m ≡ (graph_of file).size
  pub network : (f : List ℕ) → FileOf n holds f → graph_of f ≡ graph_of file
