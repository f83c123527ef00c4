-- 01, Numbers: the sentences 3 to 15, which are told of a file's sections; and the slices that a file is decoded into.
use Rattle.std.specs.Prelude.{◌≡◌, ◌∷◌, ◌*◌, ◌/◌, ◌≤◌}
use Rattle.kit.specs.Names.{false, List, ℕ, ltb, length}
use Rattle.definitions.specs.Basics.{any, first_that_holds}
use Rattle.definitions.specs.ContractFile.{Sections, contract_of}
use Rattle.definitions.specs.Numbers.{ends_wrongly, count_off_limits, outside_tables, names_nothing, used_other_than_once, too_deep, wrong_sort}
use Rattle.definitions.specs.Numbers.{contract_sentences}
use Rattle.file_bytes.specs.declared.Layout.{Layout}
use Rattle.file_bytes.specs.Layout.{IsLayout}
use Rattle.file_decoded.specs.Slices.{Shaped, ParametersInside, sections_from}
use Rattle.file_decoded.specs.declared.DecodedSections.{DecodedSections}
use Rattle.file_decoder.specs.Decoding.{Decodable}

unfoldable pub contract_number : Sections → ℕ
contract_number s =
    first_that_holds 3 (outside_tables s
    ∷ names_nothing s
    ∷ used_other_than_once s
    ∷ too_deep s
    ∷ wrong_sort s
    ∷ contract_sentences (contract_of s))

-- Slices of whole records, within number 2's limits, and a column for their nodes.
pub record Held (fields functions parameters nodes owners : List ℕ) : Type 0 where
  pub shaped : Shaped functions nodes
  pub inside : ParametersInside functions parameters
  pub few_fields : length fields ≤ 192
  pub few_parameters : any (λ r. ltb 8 (length r.parameters)) (sections_from fields functions parameters nodes).functions ≡ false
  pub column : length nodes / 5 ≤ length owners

abbrev pub HeldIn : DecodedSections → List ℕ → Type 0
HeldIn sections owners = Held sections.fields.now sections.functions.now sections.parameters.now sections.nodes.now owners

-- The same before the file is decoded into them.
pub record Room (file : List ℕ) (l : Layout) (fields functions parameters nodes owners : List ℕ) : Type 0 where
  pub decodable : Decodable file l fields functions parameters nodes
  pub shaped : Shaped functions nodes
  pub few_fields : length fields ≤ 192
  pub counts : count_off_limits file ≡ false
  pub column : length nodes / 5 ≤ length owners

-- There is room for as many nodes as the file says, unless number 2 refuses so many.
pub record Enough (l : Layout) (nodes owners : List ℕ) : Type 0 where
  pub for_nodes : l.nodes ≤ 512 → 5 * l.nodes ≤ length nodes
  pub for_owners : l.nodes ≤ 512 → l.nodes ≤ length owners

-- Numbers 1 and 2 let the file pass.
pub record Counted (file : List ℕ) (l : Layout) : Type 0 where
  pub layout : IsLayout file l
  pub ends : ends_wrongly file ≡ false
  pub counts : count_off_limits file ≡ false
