-- A tree of matches over n places: node k from 1 to n - 1 has the nodes 2 * k and 2 * k + 1 below it, and node n + p is place p. Each node
-- holds the place that wins among those below it: the one with the smallest key, and of these the smallest place.
use Rattle.std.specs.Prelude.{ℕ, ◌+◌, ◌-◌, ◌*◌, ◌%◌, ◌<◌, ◌≤◌, cond, List, ◌≡◌, ltb, length, get_or}
use Rattle.graph.specs.Sorting.{stable}

-- the winner of two places
unfoldable pub winner : (ℕ → ℕ) → ℕ → ℕ → ℕ
winner key a b = cond (stable key b a) b a

-- the rank of a place; of two places below 4,096 the one with the smaller rank wins
abbrev pub rank : (ℕ → ℕ) → ℕ → ℕ
rank key p = 4096 * key p + p

-- the node beside node k, below the same node
abbrev pub sibling_of : ℕ → ℕ
sibling_of k = k + 1 - 2 * (k % 2)

-- the key of a place, in the table w from entry `at` on
abbrev pub key_of : List ℕ → ℕ → ℕ → ℕ
key_of w at p = get_or w (at + p) 0

-- the place that node k holds; the n entries of the nodes follow the n keys
unfoldable pub node_of : List ℕ → ℕ → ℕ → ℕ → ℕ
node_of w at n k = cond (ltb k n) (get_or w (at + n + k) 0) (k - n)

-- the winner of the match of node k
abbrev pub won_of : List ℕ → ℕ → ℕ → ℕ → ℕ
won_of w at n k = winner (key_of w at) (node_of w at n (2 * k)) (node_of w at n (2 * k + 1))

-- the rank of the place that node k holds
abbrev pub rank_of : List ℕ → ℕ → ℕ → ℕ → ℕ
rank_of w at n k = rank (key_of w at) (node_of w at n k)

-- node k holds the winner of the two nodes below it
abbrev pub Played : (ℕ → ℕ) → (ℕ → ℕ) → ℕ → Type 0
Played key node k = node k ≡ winner key (node (2 * k)) (node (2 * k + 1))

-- the nodes after node c hold places, and each of those before n holds a winner
pub record Matched (key node : ℕ → ℕ) (n c : ℕ) : Type 0 where
  pub place : (k : ℕ) → c < k → k < 2 * n → node k < n
  pub played : (k : ℕ) → c < k → k < n → Played key node k

-- there is room for the keys and the nodes, of two places or more, and of no more than ranks tell apart
pub record Room (at n : ℕ) (w : List ℕ) : Type 0 where
  pub some : 2 ≤ n
  pub most : n ≤ 4096
  pub room : at + 2 * n ≤ length w

-- a tree in a table: there is room for its keys and nodes, each node holds a place, and each that has two below it their winner
pub record Tree (w : List ℕ) (at n : ℕ) : Type 0 where
  pub room : Room at n w
  pub matched : Matched (key_of w at) (node_of w at n) n 0

-- the tables differ only in the entries of the nodes
pub record Beside (at n : ℕ) (w w' : List ℕ) : Type 0 where
  pub same_length : length w' ≡ length w
  pub before : (i : ℕ) → i < at + n → get_or w' i 0 ≡ get_or w i 0
  pub after : (i : ℕ) → at + 2 * n ≤ i → get_or w' i 0 ≡ get_or w i 0
