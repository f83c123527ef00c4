-- 01, Rewriting: the claims of a log with their circuits, as code finds them, and what code makes of them.
use Rattle.std.specs.Prelude.{◌≡◌, ◌∷◌, ◌++◌, ◌+◌, ◌*◌, ◌-◌, ◌<◌, ◌≤◌}
use Rattle.kit.specs.Names.{Bool, cond, List, [], map, ℕ, zero, suc, eqb, length, get_or}
use Rattle.definitions.specs.Basics.{flat_map, two_bytes}
use Rattle.definitions.specs.ContractFile.{Scope, node_count, Node}
use Rattle.definitions.specs.Rewriting.{Tree, size, sizes, numbered_all, node_bytes}
use Rattle.theory_trees.specs.Trees.{expression_in}
use Rattle.memory_buffer.specs.Buffer.{stored}
use Rattle.file_accepted.specs.Context.{nodes_in, scope_in}
use Rattle.write_variable_counts.specs.Counts.{circuit_count}
use Rattle.write_nodes.specs.Numbering.{Numbered}
use Rattle.write_reads.specs.Forms.{circuit_form}
use Rattle.write_circuits.specs.declared.Circuits.{Circuits}

-- A claim as a log tells it: the guard's number, the variable, the owner code, and the circuit's tree.
pub record LoggedClaim : Type 0 where
  pub guard : ℕ
  pub variable : ℕ
  pub owner : ℕ
  pub tree : Tree

abbrev pub trees_of : List LoggedClaim → List Tree
trees_of claims = map (λ c. c.tree) claims

abbrev pub four : ℕ → ℕ → ℕ → ℕ → List ℕ
four guard variable owner root = guard ∷ variable ∷ owner ∷ root ∷ []

abbrev pub four_of : ℕ → LoggedClaim → List ℕ
four_of base c = four c.guard c.variable c.owner (base + size c.tree - 1)

-- Four numbers a claim; the first circuit's first node has number `base`.
unfoldable pub fours_of : ℕ → List LoggedClaim → List ℕ
fours_of base [] = []
fours_of base (c ∷ claims) = four_of base c ++ fours_of (base + size c.tree) claims

-- An entry of a log is five numbers: tag (1 for a claim), variable, owner code, node, and the guard's number.
abbrev pub is_claim_at : List ℕ → ℕ → Bool
is_claim_at log from = eqb (get_or log from 0) 1

abbrev pub circuit_at : Scope → List Node → List ℕ → ℕ → Tree
circuit_at scope nodes log from = circuit_form scope (expression_in nodes (get_or log (from + 3) 0)) (get_or log (from + 1) 0 + 1)

abbrev pub claim_at : Scope → List Node → List ℕ → ℕ → LoggedClaim
claim_at scope nodes log from = record {
  guard = get_or log (from + 4) 0;
  variable = get_or log (from + 1) 0;
  owner = get_or log (from + 2) 0;
  tree = circuit_at scope nodes log from;
}

-- The claims among so many entries of a log.
unfoldable pub claims_at : Scope → List Node → List ℕ → ℕ → ℕ → List LoggedClaim
claims_at scope nodes log from zero = []
claims_at scope nodes log from (suc left) =
    cond (is_claim_at log from)
    (claim_at scope nodes log from ∷ claims_at scope nodes log (from + 5) left)
    (claims_at scope nodes log (from + 5) left)

abbrev pub logged_claims : Scope → List Node → ℕ → List ℕ → ℕ → ℕ → List ℕ
logged_claims scope nodes base log from left = fours_of base (claims_at scope nodes log from left)

abbrev pub logged_circuits : Scope → List Node → List ℕ → ℕ → ℕ → List Tree
logged_circuits scope nodes log from left = trees_of (claims_at scope nodes log from left)

abbrev pub claims_in : List ℕ → ℕ → List ℕ → ℕ → ℕ → List LoggedClaim
claims_in file function_start log from left = claims_at (scope_in file function_start) (nodes_in file) log from left

-- The entries are there, and the circuits of what they claim can be written.
pub record Claimable (file : List ℕ) (function_start : ℕ) (log : List ℕ) (from left : ℕ) : Type 0 where
  pub space : from + 5 * left ≤ length log
  pub inside : (k : ℕ) → k < left → get_or log (from + 5 * k) 0 ≡ 1 → get_or log (from + 5 * k + 3) 0 < node_count file
  pub few : (k : ℕ) → k < left → get_or log (from + 5 * k) 0 ≡ 1
      → get_or log (from + 5 * k + 1) 0 + 1
      + circuit_count (scope_in file function_start) (expression_in (nodes_in file) (get_or log (from + 5 * k + 3) 0)) ≤ 65535

-- The same of the one entry at a place.
pub record EntryClaimable (file : List ℕ) (function_start : ℕ) (log : List ℕ) (from : ℕ) : Type 0 where
  pub space : from + 5 ≤ length log
  pub inside : get_or log (from + 3) 0 < node_count file
  pub few : get_or log (from + 1) 0 + 1
      + circuit_count (scope_in file function_start) (expression_in (nodes_in file) (get_or log (from + 3) 0)) ≤ 65535

-- There is room for the nodes of the circuits, and for four numbers a claim.
pub record CircuitsRoom (out fours : List ℕ) (at base place : ℕ) (claims : List LoggedClaim) : Type 0 where
  pub bytes : at + 8 * sizes (trees_of claims) ≤ length out
  pub numbers : base + sizes (trees_of claims) ≤ 65535
  pub space : place + 4 * length claims ≤ length fours

-- One circuit's nodes are stored in one buffer and its claim's four numbers in another.
pub record CircuitPut (out after fours fours_after : List ℕ) (at base place : ℕ) (c : LoggedClaim) (nodes : ℕ) : Type 0 where
  pub circuit : Numbered out after at base c.tree nodes
  pub claim : fours_after ≡ stored fours place (four c.guard c.variable c.owner (base + nodes - 1))

-- The nodes of the circuits are stored in one buffer and their claims' numbers in another, and they are so many.
pub record CircuitsPut (out after fours fours_after : List ℕ) (at base place : ℕ) (claims : List LoggedClaim) (r : Circuits) : Type 0 where
  pub contents : after ≡ stored out at (flat_map node_bytes (numbered_all base (trees_of claims)))
  pub noted : fours_after ≡ stored fours place (fours_of base claims)
  pub nodes : r.nodes ≡ sizes (trees_of claims)
  pub count : r.count ≡ length claims

-- "each guard .., variable, root .., two bytes each", of so many fours.
abbrev pub six_bytes : ℕ → ℕ → ℕ → List ℕ
six_bytes guard variable root = two_bytes guard ++ two_bytes variable ++ two_bytes root

unfoldable pub sixes_from : List ℕ → ℕ → ℕ → List ℕ
sixes_from numbers from zero = []
sixes_from numbers from (suc left) =
    six_bytes (get_or numbers from 0) (get_or numbers (from + 1) 0) (get_or numbers (from + 3) 0) ++ sixes_from numbers (from + 4) left
