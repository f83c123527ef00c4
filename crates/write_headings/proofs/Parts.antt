-- The parts of a heading are the heading that a log tells, and its count of keys is stored last.
use Rattle.std.specs.Prelude.{◌≡◌, ◌∷◌, ◌++◌, ◌+◌, ◌-◌, ◌≤◌}
use Rattle.kit.specs.Names.{ap, ◌∙◌, subst, List, [], append_assoc, ℕ, arith, length, length-append}
use Rattle.definitions.specs.Basics.{two_bytes}
use Rattle.definitions.specs.ContractFile.{byte_at}
use Rattle.memory_buffer.specs.Buffer.{stored}
use Rattle.memory_append.specs.Append.{Appended}
use Rattle.memory_append.proofs.Appending.{stored_before, appended_then, room_then}
use Rattle.write_variables.specs.PerEntry.{per_entry, count_tag}
use Rattle.write_variables.specs.Variables.{variable_of}
use Rattle.write_parameters.specs.Parameters.{parameters_from, private_count, opening_variables, opening_claims}
use Rattle.write_heading_laws.specs.Heading.{logged_heading}
use Rattle.write_headings.specs.Parts.{parameter_part, private_of, logged_keys, key_part, parts_with, heading_parts, HeadingFits}

regroup : (p tv ov pe tk kl tc oc cl tr : List ℕ)
    → p ++ tv ++ (ov ++ pe) ++ tk ++ kl ++ tc ++ (oc ++ cl) ++ tr ≡ p ++ ((tv ++ ov ++ pe) ++ ((tk ++ kl) ++ ((tc ++ oc ++ cl) ++ tr)))
regroup p tv ov pe tk kl tc oc cl tr = simp append_assoc

pub heading_is : (file : List ℕ) (at made : ℕ) (log claims : List ℕ) (root : ℕ)
    → logged_heading file (at + 1) (byte_at file at) log made claims root ≡ heading_parts file at made log claims root
unfolding logged_heading heading_parts
heading_is file at made log claims root =
    regroup (parameter_part file at) (two_bytes (private_of file at + made)) (opening_variables (private_of file at)) (per_entry variable_of log) (two_bytes (length (logged_keys log)))
    (logged_keys log) (two_bytes (private_of file at + count_tag 1 log)) (opening_claims 0 (private_of file at)) claims (two_bytes root)

module _ (held : List ℕ) (at : ℕ) (log : List ℕ) (fits : at + length (key_part log) ≤ length held) where
  keys_behind : at + 2 + length (logged_keys log) ≤ length held
  keys_behind = omega (arith, length-append (two_bytes (length (logged_keys log))) (logged_keys log))

  pub keys_counted : (between after : List ℕ) (end count place : ℕ) → Appended held between (at + 2) (logged_keys log) end → count ≡ end - (at + 2)
      → Appended between after at (two_bytes count) place → Appended held after at (key_part log) end
  keys_counted between after end count place a e b =
      let p = a.place in
      let n : count ≡ length (logged_keys log) = omega arith in
      record {
        contents =
            b.contents ∙ ap (λ (d : List ℕ). stored d at (two_bytes count)) a.contents
            ∙ ap (λ (m : ℕ). stored (stored held (at + 2) (logged_keys log)) at (two_bytes m)) n
            ∙ stored_before held at (two_bytes (length (logged_keys log))) (logged_keys log) keys_behind;
        place = omega (arith, length-append (two_bytes (length (logged_keys log))) (logged_keys log));
      }

-- The count of parameters that was read is the one in the file.
module _ (file : List ℕ) (start : ℕ) (held : List ℕ) (at count : ℕ) (e : count ≡ byte_at file start) (fits : at + length (parameter_part file start) ≤ length held) where
  same_part : count ∷ parameters_from count file (start + 1) ≡ parameter_part file start
  same_part = ap (λ (n : ℕ). n ∷ parameters_from n file (start + 1)) e

  part_fits : at + length ((count ∷ []) ++ parameters_from count file (start + 1)) ≤ length held
  part_fits = let n = ap length same_part in omega arith

  pub parameters_room : (between : List ℕ) (middle : ℕ) → Appended held between at (count ∷ []) middle → middle + length (parameters_from count file (start + 1)) ≤ length between
  parameters_room between middle a = room_then held at between (count ∷ []) (parameters_from count file (start + 1)) middle a part_fits

  pub parameters_appended : (between after : List ℕ) (middle end : ℕ) → Appended held between at (count ∷ []) middle → Appended between after middle (parameters_from count file (start + 1)) end
      → Appended held after at (parameter_part file start) end
  parameters_appended between after middle end a b =
      let n = part_fits in
      subst (λ (l : List ℕ). Appended held after at l end) same_part
      (appended_then held at between after (count ∷ []) (parameters_from count file (start + 1)) middle end a (omega arith) b)

pub private_is_law : (file : List ℕ) (start count private : ℕ) → count ≡ byte_at file start → private ≡ private_count count file (start + 1) → private ≡ private_of file start
private_is_law file start count private e h = h ∙ ap (λ (n : ℕ). private_count n file (start + 1)) e

pub counted : (held between log : List ℕ) (at middle private count : ℕ) → count ≡ count_tag 1 log → Appended held between at (two_bytes (private + count)) middle
    → Appended held between at (two_bytes (private + count_tag 1 log)) middle
counted held between log at middle private count e a = subst (λ (n : ℕ). Appended held between at (two_bytes (private + n)) middle) e a

module _ (private : ℕ) (file : List ℕ) (at made : ℕ) (log claims : List ℕ) (root from room : ℕ) (e : private ≡ private_of file at)
    (fits : HeadingFits file at made log claims root from room) where
  pub parts_are : parts_with private file at made log claims root ≡ heading_parts file at made log claims root
  unfolding heading_parts
  parts_are = ap (λ (n : ℕ). parts_with n file at made log claims root) e

  pub parts_fit : from + length (parts_with private file at made log claims root) ≤ room
  parts_fit = let n = ap length parts_are in let h = fits.bytes in omega arith

  pub heading_appended : (held after : List ℕ) (end : ℕ) → Appended held after from (parts_with private file at made log claims root) end
      → Appended held after from (heading_parts file at made log claims root) end
  heading_appended held after end a = subst (λ (l : List ℕ). Appended held after from l end) parts_are a

  pub variables_fit : private + made ≤ 65535
  variables_fit = let h = fits.variables in omega arith

  pub constraints_fit : private + count_tag 1 log ≤ 65535
  constraints_fit = let h = fits.constraints in omega arith
