-- An owner code of document 01's tables is written in two bytes, and reads as itself again.
use Rattle.std.specs.Prelude.{◌≡◌, ◌||◌, ◌&&◌, ◌+◌, ◌<◌, ◌≤◌}
use Rattle.kit.specs.Names.{refl, Bool, true, false, ℕ, arith, eqb, leb, leb-true, ltb-true, eqb-true}
use Rattle.kit.specs.Names.{le-leb, lt-leb, lt-ltb, le-ltb}
use Rattle.definitions.specs.Basics.{is_zero}
use Rattle.definitions.specs.ContractFile.{FieldRecord, ParameterRecord, is_final_code, is_parameter_code}
use Rattle.definitions.specs.Numbers.{field_in_tables, parameter_in_tables, target_in_tables}
use Rattle.theory_laws.proofs.TruthValues.{and_left, and_right}
use Rattle.theory_layouts.specs.Wide.{wide_read, wide_written}

abbrev pub ReadsBack : ℕ → Type 0
ReadsBack code = (wide_read (wide_written code) ≡ code) × (wide_written code ≤ 65535)

low_written : (code : ℕ) → code ≤ 2 → wide_written code ≡ code
low_written code h = rw (le-leb code 2 h)

low_back : (code : ℕ) → code ≤ 2 → ReadsBack code
low_back code h = rw (low_written code h) (rw (le-leb code 2 h), omega arith)

final_written : (code : ℕ) → 16 ≤ code → code < 80 → wide_written code ≡ code + 240
final_written code h k = rw (lt-leb code 2 (omega arith)) (rw (le-leb 16 code h) (rw (lt-ltb code 80 k)))

final_back : (code : ℕ) → is_final_code code ≡ true → ReadsBack code
final_back code h =
    let from = leb-true 16 code (and_left _ _ h) in
    let below = ltb-true code 80 (and_right (leb 16 code) _ h) in
    let back : wide_read (code + 240) ≡ code =
    rw (lt-leb (code + 240) 2 (omega arith)) (rw (le-leb 256 (code + 240) (omega arith)) (rw (lt-ltb (code + 240) 320 (omega arith)) (omega arith))) in
    rw (final_written code from below) (back, omega arith)

parameter_written_law : (code : ℕ) → 128 ≤ code → code < 136 → wide_written code ≡ code + 3968
parameter_written_law code h k =
    rw (lt-leb code 2 (omega arith)) (rw (le-leb 16 code (omega arith)) (rw (le-ltb code 80 (omega arith)) (rw (le-leb 128 code h) (rw (lt-ltb code 136 k)))))

parameter_back : (code : ℕ) → is_parameter_code code ≡ true → ReadsBack code
parameter_back code h =
    let from = leb-true 128 code (and_left _ _ h) in
    let below = ltb-true code 136 (and_right (leb 128 code) _ h) in
    let back : wide_read (code + 3968) ≡ code =
    rw (lt-leb (code + 3968) 2 (omega arith)) (rw (le-leb 256 (code + 3968) (omega arith)) (rw (le-ltb (code + 3968) 320 (omega arith))
    (rw (le-leb 4096 (code + 3968) (omega arith)) (rw (lt-ltb (code + 3968) 4104 (omega arith)) (omega arith))))) in
    rw (parameter_written_law code from below) (back, omega arith)

either : {P : Type 0} (a b : Bool) → (a || b) ≡ true → (a ≡ true → P) → (b ≡ true → P) → P
either true b h f g = f refl
either false b h f g = g h

pub target_back : (code : ℕ) → target_in_tables code ≡ true → ReadsBack code
target_back code h =
    either (leb code 1 || is_final_code code) (is_parameter_code code) h
    (λ k. either (leb code 1) (is_final_code code) k (λ l. low_back code (omega (arith, leb-true code 1 l))) (final_back code))
    (parameter_back code)

pub parameter_code_back : (r : ParameterRecord) → parameter_in_tables r ≡ true → ReadsBack r.owner
unfolding parameter_in_tables
parameter_code_back r h = low_back r.owner (omega (arith, leb-true r.owner 1 (and_right (leb r.type 2) _ h)))

pub field_code_back : (r : FieldRecord) → field_in_tables r ≡ true → ReadsBack r.owner
unfolding field_in_tables
field_code_back r h =
    let o = r.owner in
    either (is_zero o || is_final_code o) (eqb o 2 && eqb r.shape 2) (and_right (leb r.shape 2 && leb r.type 2) _ (and_left _ _ h))
    (λ k. either (is_zero o) (is_final_code o) k (λ l. low_back o (omega (arith, eqb-true o 0 l))) (final_back o))
    (λ k. low_back o (omega (arith, eqb-true o 2 (and_left _ _ k))))
