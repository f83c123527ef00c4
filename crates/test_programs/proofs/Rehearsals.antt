-- A rehearsal's lines, one behind another, held against what is expected.
use Rattle.std.specs.Prelude.{◌≡◌, ◌&&◌, ◌||◌, ◌∷◌, ◌++◌, ◌+◌, ◌-◌, ◌*◌, ◌<◌, ◌≤◌}
use Rattle.kit.specs.Names.{refl, ap, ap₂, sym, subst, ◌∙◌, Bool, true, false, cond, not, List, [], ℕ, suc}
use Rattle.kit.specs.Names.{min, arith, eqb, ltb, leb, length, take, drop, length-append, length-take, length-drop}
use Rattle.kit.specs.Names.{take-append-drop, length-take-le, take_at, drop-drop, drop-length, eq-eqb, ne_eqb, lt-ltb, le-ltb, ltb-false}
use Rattle.kit.specs.Names.{le-leb, leb-true, leb-false, eqb-true, eqb-false}
use Rattle.definitions.specs.Basics.{first_that_holds}
use Rattle.definitions.specs.ContractFile.{byte_at}
use Rattle.definitions.specs.Report.{decimal, refused_line}
use Rattle.definitions.specs.Ledger as ledger
use Rattle.definitions.specs.Ledger.{is_well_formed, deploy_number, deployed}
use Rattle.definitions.specs.View.{view_bytes, view_number, view_length, output_after_view}
use Rattle.theory_laws.proofs.TruthValues.{or_right}
use Rattle.memory_buffer.specs.Buffer.{stored}
use Rattle.memory_buffer.proofs.Storing.{front_stored}
use Rattle.ledger_struct.specs.declared.Ledger as code
use Rattle.ledger_struct.specs.Ledgers.{ledger_of}
use Rattle.deploy.specs.declared.Deployment.{Deployment}
use Rattle.deploy.specs.Deployments.{nothing_deployed, Deployed}
use Rattle.call.specs.declared.Called.{Called}
use Rattle.call.specs.Calls.{CalledOn}
use Rattle.memory_answer.specs.declared.Answer.{Answer}
use Rattle.view_bytes.specs.Views.{Viewed}
use Rattle.rehearse_scripts.specs.declared.Call.{Call}
use Rattle.rehearse_scripts.specs.Scripts.{addresses_end, call_count, call_at, arguments_of, is_script, file_of, addresses_of}
use Rattle.rehearse_scripts.specs.Parts.{IsCall, ArgumentsStand}
use Rattle.rehearse_lines.specs.Lines.{hex_text, view_line, LineWritten}
use Rattle.test_shared.specs.Bytes.{same_bytes}
use Rattle.test_shared.proofs.Bytes.{lengths_differ, same_itself}
use Rattle.test_programs.specs.ProgramRecords.{answer_text, bad_script_line, view_shown, line_of, call_number_at, ledger_after_call_at, call_lines, script_lines}
use Rattle.test_programs.specs.ProgramRecords.{rehearsed, is_expected, Shown, stands_at, behind_text}

-- The view that is shown.
module _ (party : ℕ) (l : ledger.Ledger) (before after : List ℕ) (answer : Answer) (m : ℕ) (room : 20565 ≡ length before)
    (viewed : Viewed party l before after answer) (least : m ≡ min answer.length 20565) where
  view_fits_law : view_number party l 20565 ≡ 0 → length (view_bytes party l) ≤ 20565
  unfolding view_number first_that_holds
  view_fits_law e =
      ltb-false 20565 (length (view_bytes party l))
      (or_right (not (is_well_formed l) || ltb 15 party) (ltb 20565 (length (view_bytes party l)))
      (clear (not (is_well_formed l) || ltb 15 party || ltb 20565 (length (view_bytes party l))) e))
    where
      clear : (b : Bool) → cond {A = ℕ} b 21 0 ≡ 0 → b ≡ false
      clear true h = absurd (omega arith)
      clear false h = refl

  shown_by_law : (b : Bool) → eqb (view_number party l 20565) 0 ≡ b → (long : ℕ) → long ≡ cond b (length (view_bytes party l)) 0
      → m ≡ min long 20565 → take m (cond b (view_bytes party l ++ drop (length (view_bytes party l)) before) before) ≡ cond b (view_bytes party l) []
  shown_by_law true e long f g =
      take_at (view_bytes party l) (drop (length (view_bytes party l)) before) m (omega (arith, view_fits_law (eqb-true (view_number party l 20565) 0 e)))
  shown_by_law false e long f g = let none : m ≡ 0 = omega arith in ap (λ (n : ℕ). take n before) none

  pub view_is : take m after ≡ view_shown party l
  unfolding view_shown view_length output_after_view
  view_is =
      ap (take m) (viewed.output ∙ ap (λ (n : ℕ). cond (eqb (view_number party l n) 0) (view_bytes party l ++ drop (length (view_bytes party l)) before) before) (sym room))
      ∙ shown_by_law (eqb (view_number party l 20565) 0) refl answer.length
      (viewed.long ∙ ap (λ (n : ℕ). cond (eqb (view_number party l n) 0) (length (view_bytes party l)) 0) (sym room)) least

  -- Its line, at the front of an ample output.
  pub line_is : (number : ℕ) (out written : List ℕ) (end : ℕ) → 49152 ≤ length out → LineWritten number (take m after) out written end
      → take end written ≡ line_of number party l
  line_is number out written end ample w =
      let few : 5 + 2 * length (take m after) ≤ length out = omega (arith, length-take m after) in
      let roomy = le-leb (5 + 2 * length (take m after)) (length out) few in
      front_stored out written (view_line number (take m after)) end
      (w.output ∙ ap (λ (b : Bool). cond b (stored out 0 (view_line number (take m after))) out) roomy)
      (w.long ∙ ap (λ (b : Bool). cond b (length (view_line number (take m after))) 0) roomy)
      ∙ ap (view_line number) view_is

pub line_some : (number : ℕ) (view : List ℕ) → 0 < length (view_line number view)
line_some number view =
    omega (arith, length-append (decimal number ++ (32 ∷ hex_text view)) (10 ∷ []))

-- A call as the script has it.
pub called_at : (s made : List ℕ) (k : ℕ) (l : code.Ledger) (parts : Call) (r : Called) → IsCall s k parts → ArgumentsStand s k made
    → CalledOn l parts.function parts.caller (take parts.arguments made) r
    → CalledOn l (byte_at s (call_at s k)) (byte_at s (call_at s k + 1)) (arguments_of s k) r
called_at s made k l parts r is stand on =
    subst (λ (a : List ℕ). CalledOn l (byte_at s (call_at s k)) (byte_at s (call_at s k + 1)) a r)
    (ap (λ (n : ℕ). take n made) is.arguments ∙ stand.stand)
    (subst (λ (n : ℕ). CalledOn l (byte_at s (call_at s k)) n (take parts.arguments made) r) is.caller
    (subst (λ (n : ℕ). CalledOn l n parts.caller (take parts.arguments made) r) is.function on))

same_parts : (a b c d : List ℕ) → length a ≡ length b → same_bytes (a ++ c) (b ++ d) ≡ (same_bytes a b && same_bytes c d)
unfolding same_bytes
same_parts [] [] c d e = refl
same_parts [] (n ∷ ns) c d e = absurd (omega arith)
same_parts (m ∷ ms) [] c d e = absurd (omega arith)
same_parts (m ∷ ms) (n ∷ ns) c d e = ap (λ (t : Bool). eqb m n && t) (same_parts ms ns c d (omega arith)) ∙ sym (and_assoc (eqb m n) (same_bytes ms ns) (same_bytes c d))
  where
    and_assoc : (x y z : Bool) → ((x && y) && z) ≡ (x && (y && z))
    and_assoc true y z = refl
    and_assoc false y z = refl

-- The rest is expected from a place on. No line is empty, so that 0 is never a place behind one.
abbrev pub goes_on : List ℕ → List ℕ → ℕ → Bool
goes_on rest expected at = ltb 0 at && (leb at (length expected) && same_bytes rest (drop at expected))

module _ (line rest expected : List ℕ) (some : 0 < length line) (at : ℕ) where
  abbrev front : List ℕ
  front = take (length line) (drop at expected)

  past : length expected < at + length line → false ≡ same_bytes (line ++ rest) (drop at expected)
  past h = lengths_differ (line ++ rest) (drop at expected) (λ e. omega (arith, length-append line rest, length-drop at expected))

  apart : at + length line ≤ length expected
      → same_bytes (line ++ rest) (drop at expected) ≡ (same_bytes line front && same_bytes rest (drop (at + length line) expected))
  apart fits =
      ap (same_bytes (line ++ rest)) (sym (take-append-drop (length line) (drop at expected)))
      ∙ same_parts line front rest (drop (length line) (drop at expected))
      (sym (length-take-le (length line) (drop at expected) (omega (arith, length-drop at expected))))
      ∙ ap (λ (l : List ℕ). same_bytes line front && same_bytes rest l) (drop-drop (length line) at expected)

  by_front : (fits : at + length line ≤ length expected) (u : Bool)
      → goes_on rest expected (cond u (at + length line) 0) ≡ (u && same_bytes rest (drop (at + length line) expected))
  by_front fits true = rw (lt-ltb 0 (at + length line) (omega arith), le-leb (at + length line) (length expected) fits)
  by_front fits false = refl

  by_room : (t : Bool) → leb (at + length line) (length expected) ≡ t
      → goes_on rest expected (cond (t && same_bytes line front) (at + length line) 0) ≡ same_bytes (line ++ rest) (drop at expected)
  by_room true e =
      let fits = leb-true (at + length line) (length expected) e in by_front fits (same_bytes line front) ∙ sym (apart fits)
  by_room false e = past (leb-false (at + length line) (length expected) e)

  pub line_steps : (next : ℕ) → next ≡ behind_text line expected at → goes_on rest expected next ≡ same_bytes (line ++ rest) (drop at expected)
  unfolding behind_text stands_at
  line_steps next e = ap (goes_on rest expected) e ∙ by_room (leb (at + length line) (length expected)) refl

  pub line_goes_on : (next : ℕ) → 0 < at → next ≡ behind_text line expected at → goes_on rest expected next ≡ goes_on (line ++ rest) expected at
  line_goes_on next begun e = go (leb at (length expected)) refl
    where
      go : (t : Bool) → leb at (length expected) ≡ t → goes_on rest expected next ≡ goes_on (line ++ rest) expected at
      go true h = rw (lt-ltb 0 at begun, h) (line_steps next e)
      go false h = rw (lt-ltb 0 at begun, h) (line_steps next e ∙ sym (past (omega (arith, leb-false at (length expected) h))))

nothing_left : (expected : List ℕ) (at : ℕ) → 0 < at → eqb at (length expected) ≡ goes_on [] expected at
nothing_left expected at begun = go (leb at (length expected)) refl (eqb at (length expected)) refl
  where
    none : (l : List ℕ) → 0 < length l → false ≡ same_bytes [] l
    none l h = lengths_differ [] l (λ e. omega arith)

    go : (t : Bool) → leb at (length expected) ≡ t → (u : Bool) → eqb at (length expected) ≡ u → eqb at (length expected) ≡ goes_on [] expected at
    go true h true f =
        let here = eqb-true at (length expected) f in
        rw (lt-ltb 0 at begun, h, f) (sym (ap (same_bytes []) (ap (λ (n : ℕ). drop n expected) here ∙ drop-length expected) ∙ same_itself []))
    go true h false f =
        let within = leb-true at (length expected) h in
        let differs : (at ≡ length expected → ⊥) = eqb-false at (length expected) f in
        rw (lt-ltb 0 at begun, h, f) (none (drop at expected) (omega (arith, length-drop at expected)))
    go false h true f = absurd (omega (arith, leb-false at (length expected) h, eqb-true at (length expected) f))
    go false h false f = rw (lt-ltb 0 at begun, h, f)

-- The lines of the calls that are left are expected from a place on where all lines are expected.
abbrev pub Going : List ℕ → List ℕ → ℕ → ℕ → ledger.Ledger → ledger.Ledger → ℕ → ℕ → Type 0
Going s expected party calls l now k at =
    goes_on (call_lines (calls - k) s party k now) expected at ≡ is_expected (script_lines s l) expected

-- A script's lines, call by call.
module _ (s expected : List ℕ) (party calls : ℕ) (own : party ≡ byte_at s (addresses_end s)) (all : calls ≡ call_count s) (l : ledger.Ledger) where
  script_some : same_bytes (script_lines s l) expected ≡ is_expected (script_lines s l) expected
  unfolding is_expected script_lines
  script_some =
      ap (λ (b : Bool). b && same_bytes (script_lines s l) expected)
      (sym (lt-ltb 0 (length (script_lines s l))
      (omega (
        arith,
        length-append (line_of 0 (byte_at s (addresses_end s)) l) (call_lines (call_count s) s (byte_at s (addresses_end s)) 0 l),
        line_some 0 (view_shown (byte_at s (addresses_end s)) l),
      ))))

  pub going_start : (at : ℕ) → at ≡ behind_text (line_of 0 party l) expected 0 → Going s expected party calls l l 0 at
  unfolding script_lines
  going_start at e =
      let count : calls - 0 ≡ calls = omega arith in
      ap (λ (n : ℕ). goes_on (call_lines n s party 0 l) expected at) count
      ∙ line_steps (line_of 0 party l) (call_lines calls s party 0 l) expected (line_some 0 (view_shown party l)) 0 at e
      ∙ ap (λ (p : ℕ). same_bytes (line_of 0 p l ++ call_lines calls s p 0 l) expected) own
      ∙ ap (λ (n : ℕ). same_bytes (line_of 0 (byte_at s (addresses_end s)) l ++ call_lines n s (byte_at s (addresses_end s)) 0 l) expected) all
      ∙ script_some

  going_next : (now after : ledger.Ledger) (number k at next : ℕ) → k < calls → (at ≡ 0 → ⊥) → number ≡ call_number_at s k now
      → after ≡ ledger_after_call_at s k now → next ≡ behind_text (line_of number party after) expected at → Going s expected party calls l now k at
      → Going s expected party calls l after (k + 1) next
  unfolding call_lines
  going_next now after number k at next more begun numbered became e so_far =
      let one : calls - k ≡ suc (calls - (k + 1)) = omega arith in
      let begun' : 0 < at = omega arith in
      line_goes_on (line_of number party after) (call_lines (calls - (k + 1)) s party (k + 1) after) expected
      (line_some number (view_shown party after)) at next begun' e
      ∙ ap (λ (n : ℕ). goes_on (line_of n party after ++ call_lines (calls - (k + 1)) s party (k + 1) after) expected at) numbered
      ∙ ap (λ (m : ledger.Ledger). goes_on (line_of (call_number_at s k now) party m ++ call_lines (calls - (k + 1)) s party (k + 1) m) expected at) became
      ∙ ap (λ (n : ℕ). goes_on (call_lines n s party k now) expected at) (sym one)
      ∙ so_far

  pub going_called : (now : code.Ledger) (r : Called) (k at next : ℕ) → k < calls → (at ≡ 0 → ⊥)
      → CalledOn now (byte_at s (call_at s k)) (byte_at s (call_at s k + 1)) (arguments_of s k) r
      → next ≡ behind_text (line_of r.number party (ledger_of r.ledger)) expected at → Going s expected party calls l (ledger_of now) k at
      → Going s expected party calls l (ledger_of r.ledger) (k + 1) next
  unfolding call_number_at ledger_after_call_at
  going_called now r k at next more begun on e so_far =
      going_next (ledger_of now) (ledger_of r.ledger) r.number k at next more begun on.number on.ledger e so_far

  pub going_stops : (now : ledger.Ledger) (k at : ℕ) → at ≡ 0 → Going s expected party calls l now k at → false ≡ is_expected (script_lines s l) expected
  going_stops now k at e so_far = ap (λ (b : Bool). b && (leb at (length expected) && same_bytes (call_lines (calls - k) s party k now) (drop at expected))) (sym (le-ltb 0 at (omega arith))) ∙ so_far

  pub going_ends : (now : ledger.Ledger) (k at : ℕ) → calls ≤ k → 0 < at → Going s expected party calls l now k at
      → eqb at (length expected) ≡ is_expected (script_lines s l) expected
  unfolding call_lines
  going_ends now k at done begun so_far =
      let none : calls - k ≡ 0 = omega arith in
      nothing_left expected at begun ∙ ap (λ (n : ℕ). goes_on (call_lines n s party k now) expected at) (sym none) ∙ so_far

-- What a rehearsal prints, by whether its input is a script and deploys.
module _ (s expected : List ℕ) (r : Bool) where
  pub no_script : is_script s ≡ false → r ≡ same_bytes bad_script_line expected → r ≡ is_expected (rehearsed s) expected
  unfolding rehearsed is_expected
  no_script e f = rw e f

  module _ (is : is_script s ≡ true) (file addresses : List ℕ) (d : Deployment) (is_file : file ≡ file_of s) (is_addresses : addresses ≡ addresses_of s)
      (made : Deployed file addresses d) where
    number_is : d.number ≡ deploy_number (file_of s) (addresses_of s)
    number_is = made.number ∙ ap₂ deploy_number is_file is_addresses

    pub deploy_refused : (text out : List ℕ) (end : ℕ) → (d.number ≡ 0 → ⊥) → Shown (answer_text d.number text) out end
        → r ≡ is_expected (take end out) expected → r ≡ is_expected (rehearsed s) expected
    unfolding rehearsed answer_text
    deploy_refused text out end refused shown e =
        e ∙ ap (λ (t : List ℕ). is_expected t expected) shown.front
        ∙ ap (λ (b : Bool). is_expected (cond b text (refused_line d.number)) expected) (ne_eqb d.number 0 refused)
        ∙ ap (λ (b : Bool). is_expected (cond b (script_lines s (deployed (file_of s) (addresses_of s))) (refused_line d.number)) expected) (sym (ne_eqb d.number 0 refused))
        ∙ ap (λ (n : ℕ). is_expected (answer_text n (script_lines s (deployed (file_of s) (addresses_of s)))) expected) number_is
        ∙ ap (λ (b : Bool). is_expected (cond b (answer_text (deploy_number (file_of s) (addresses_of s)) (script_lines s (deployed (file_of s) (addresses_of s)))) bad_script_line) expected) (sym is)

    pub deploy_accepted : d.number ≡ 0 → r ≡ is_expected (script_lines s (ledger_of d.ledger)) expected → r ≡ is_expected (rehearsed s) expected
    unfolding rehearsed answer_text
    deploy_accepted clear e =
        e
        ∙ ap (λ (m : ledger.Ledger). is_expected (script_lines s m) expected)
        (made.ledger ∙ ap (λ (b : Bool). cond b (deployed file addresses) nothing_deployed) (eq-eqb d.number 0 clear) ∙ ap₂ deployed is_file is_addresses)
        ∙ ap (λ (b : Bool). is_expected (cond b (script_lines s (deployed (file_of s) (addresses_of s))) (refused_line d.number)) expected) (sym (eq-eqb d.number 0 clear))
        ∙ ap (λ (n : ℕ). is_expected (answer_text n (script_lines s (deployed (file_of s) (addresses_of s)))) expected) number_is
        ∙ ap (λ (b : Bool). is_expected (cond b (answer_text (deploy_number (file_of s) (addresses_of s)) (script_lines s (deployed (file_of s) (addresses_of s)))) bad_script_line) expected) (sym is)
