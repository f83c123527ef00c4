-- Parts that are read one after another are those of the script.
use Rattle.std.specs.Prelude.{◌≡◌, ◌+◌, ◌*◌, ◌≤◌}
use Rattle.kit.specs.Names.{ap, sym, ◌∙◌, Bool, true, false, List, [], ℕ, arith, eqb, length}
use Rattle.definitions.specs.ContractFile.{byte_at, two_bytes_at}
use Rattle.rehearse_scripts.specs.declared.Script.{Script}
use Rattle.rehearse_scripts.specs.declared.Call.{Call}
use Rattle.rehearse_scripts.specs.Scripts.{four_bytes_at, file_end, addresses_end, call_count, call_at, calls_end, is_script, part, file_of, addresses_of, argument_at, numbers_at, arguments_of}
use Rattle.rehearse_scripts.specs.Parts.{IsScriptParts, IsCall}
use Rattle.rehearse_scripts.proofs.Calls.{parts_inside}

module _ (s : List ℕ) (n count party calls : ℕ) (a : n ≡ two_bytes_at s 0) (b : count ≡ byte_at s (2 + n)) (c : party ≡ byte_at s (2 + n + 1 + count))
    (d : calls ≡ byte_at s (2 + n + 1 + count + 1)) where
  file_ends_law : 2 + n ≡ file_end s
  file_ends_law = ap (λ (m : ℕ). 2 + m) a

  addresses_end_law : 2 + n + 1 + count ≡ addresses_end s
  addresses_end_law = ap (λ (m : ℕ). 2 + n + 1 + m) b ∙ ap (λ (m : ℕ). m + 1 + byte_at s m) file_ends_law

  pub script_is : n ≤ 65535 → count ≤ 255
      → IsScriptParts s (record { file_end = 2 + n; addresses_end = 2 + n + 1 + count; party = party; calls = calls; calls_at = 2 + n + 1 + count + 2 })
  script_is few fewer =
      record {
        file_ends = file_ends_law;
        addresses_ends = addresses_end_law;
        party = c ∙ ap (byte_at s) addresses_end_law;
        calls = d ∙ ap (λ (m : ℕ). byte_at s (m + 1)) addresses_end_law;
        calls_start = ap (λ (m : ℕ). m + 2) addresses_end_law;
        near = omega arith;
      }

-- Where call k of a script begins.
pub call_starts : (s : List ℕ) (r : Script) (k at : ℕ) → IsScriptParts s r → at ≡ calls_end k s r.calls_at → at ≡ call_at s k
call_starts s r k at is e = e ∙ ap (calls_end k s) is.calls_start

module _ (s : List ℕ) (k at function caller count : ℕ) (start : at ≡ call_at s k) (a : function ≡ byte_at s at) (b : caller ≡ byte_at s (at + 1))
    (c : count ≡ byte_at s (at + 2)) where
  pub call_is : at ≤ 399997 → IsCall s k (record { function = function; caller = caller; arguments = count; arguments_at = at + 3 })
  call_is h =
      record {
        function = a ∙ ap (byte_at s) start;
        caller = b ∙ ap (λ (m : ℕ). byte_at s (m + 1)) start;
        arguments = c ∙ ap (λ (m : ℕ). byte_at s (m + 2)) start;
        arguments_start = ap (λ (m : ℕ). m + 3) start;
        near = omega arith;
      }

-- The script ends where its last call does.
pub script_tested : (s : List ℕ) (r : Script) (end : ℕ) → IsScriptParts s r → end ≡ calls_end r.calls s r.calls_at → eqb (length s) end ≡ is_script s
unfolding is_script
script_tested s r end is e = ap (eqb (length s)) (e ∙ ap (λ (n : ℕ). calls_end n s r.calls_at) is.calls ∙ ap (calls_end (call_count s) s) is.calls_start)

pub argument_is : (s : List ℕ) (k j : ℕ) (r : Call) (v : ℕ) → IsCall s k r → v ≡ four_bytes_at s (r.arguments_at + 4 * j) → v ≡ argument_at s k j
argument_is s k j r v is e = e ∙ ap (λ (m : ℕ). four_bytes_at s (m + 4 * j)) is.arguments_start

pub arguments_start_law : (s : List ℕ) (k : ℕ) (r : Call) → IsCall s k r
    → numbers_at r.arguments s r.arguments_at ≡ arguments_of s k
arguments_start_law s k r is =
    ap (λ (n : ℕ). numbers_at n s r.arguments_at) is.arguments ∙ ap (numbers_at (byte_at s (call_at s k + 2)) s) is.arguments_start

-- The parts that a script lends.
module _ (s : List ℕ) (test : Bool) (same : test ≡ is_script s) where
  pub no_file : test ≡ false → [] ≡ file_of s
  unfolding file_of
  no_file h = rw (← same, h)

  pub no_addresses : test ≡ false → [] ≡ addresses_of s
  unfolding addresses_of
  no_addresses h = rw (← same, h)

  module _ (h : test ≡ true) (r : Script) (is : IsScriptParts s r) where
    pub addresses_inside : r.addresses_end ≤ length s
    addresses_inside = let inside = parts_inside s (sym same ∙ h) in omega (arith, is.addresses_ends)

    pub addresses_behind : r.file_end + 1 ≤ r.addresses_end
    addresses_behind = omega (arith, is.file_ends, is.addresses_ends)

    pub file_part : part 2 r.file_end s ≡ file_of s
    unfolding file_of
    file_part = rw (← same, h) (ap (λ (n : ℕ). part 2 n s) is.file_ends)

    pub addresses_part : part (r.file_end + 1) r.addresses_end s ≡ addresses_of s
    unfolding addresses_of
    addresses_part = rw (← same, h) (ap (λ (n : ℕ). part (n + 1) r.addresses_end s) is.file_ends ∙ ap (λ (n : ℕ). part (file_end s + 1) n s) is.addresses_ends)
