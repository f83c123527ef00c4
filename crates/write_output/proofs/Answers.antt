-- The answers of writing: 1 to 15 of a refused file, 16 where the output is too short, and the written file.
use Rattle.std.specs.Prelude.{◌≡◌, ◌++◌, ◌+◌, ◌<◌, ◌≤◌}
use Rattle.kit.specs.Names.{refl, ap, sym, ◌∙◌, Bool, true, false, cond, List, [], ℕ, zero, suc, arith, eqb, ltb}
use Rattle.kit.specs.Names.{length, drop, length-append, lt-ltb, le-ltb, ne_eqb}
use Rattle.definitions.specs.Basics.{two_bytes, first_that_holds}
use Rattle.definitions.specs.Numbers.{check_number}
use Rattle.definitions.specs.Crossings.{sixteen, crossings_in, crossings_after_writing}
use Rattle.definitions.specs.Rewriting.{written_file, write_number, written_length, output_after_writing}
use Rattle.theory_laws.proofs.Rooms.{within_room}
use Rattle.memory_buffer.specs.Buffer.{stored}
use Rattle.memory_append.specs.Append.{Appended}
use Rattle.write_output.specs.Answers.{Promised, HandedOut, CountsOut}

-- Headings, a count of two bytes, and nodes.
module _ (headings nodes : List ℕ) (count : ℕ) where
  pub total_long : length headings + 2 + length nodes ≡ length (headings ++ two_bytes count ++ nodes)
  total_long = let m = length-append headings (two_bytes count) in let n = length-append (headings ++ two_bytes count) nodes in omega arith

  pub three_long : (room : ℕ) → room < length headings + 2 + length nodes → room < length (headings ++ two_bytes count ++ nodes)
  three_long room h = let e = total_long in omega arith

  pub room_left : (room : ℕ) → length headings + 2 + length nodes ≤ room → 0 + length (headings ++ two_bytes count ++ nodes) ≤ room
  room_left room h = let e = total_long in omega arith

module _ (whole held : List ℕ) where
  pub too_short : length held < length whole → HandedOut whole held held 16 0
  unfolding first_that_holds
  too_short h = let e = lt-ltb (length held) (length whole) h in record { number = rw e; long = rw e; output = rw e }

  pub stands : (after : List ℕ) (end total : ℕ) → 0 + length whole ≤ length held → total ≡ length whole → Appended held after 0 whole end → HandedOut whole held after 0 total
  unfolding first_that_holds stored
  stands after end total h t a =
      let e = le-ltb (length held) (length whole) (omega arith) in
      record { number = rw e; long = rw e t; output = rw e (a.contents ∙ front) }
    where
      front : stored held 0 whole ≡ whole ++ drop (length whole) held
      front = let z : 0 + length whole ≡ length whole = omega arith in ap (λ (n : ℕ). whole ++ drop n held) z

-- A room that is too short gets no counts; one that is not gets those given.
pub no_counts_out : (whole held counts handed : List ℕ) → length held < length whole → handed ≡ sixteen [] → CountsOut whole held counts handed
no_counts_out whole held counts handed h e = let short = lt-ltb (length held) (length whole) h in record { told = rw short e }

pub counts_out : (whole held counts : List ℕ) → 0 + length whole ≤ length held → CountsOut whole held counts counts
counts_out whole held counts h = let fits = le-ltb (length held) (length whole) (omega arith) in record { told = rw fits refl }

pub refused : (file held counts : List ℕ) (number : ℕ) → number ≡ check_number file → 0 < number → counts ≡ sixteen [] → Promised file held held number 0 counts
unfolding write_number written_length crossings_after_writing output_after_writing
refused file held counts zero e h none = absurd (omega arith)
refused file held counts (suc n) e h none =
    let s : check_number file ≡ suc n = sym e in
    let some : eqb (suc n) 0 ≡ false = ne_eqb (suc n) 0 (λ z. omega arith) in
    let long : written_length file (length held) ≡ 0 = rw s (ap (λ (b : Bool). cond b (length (written_file file)) 0) some) in
    let after : output_after_writing file held ≡ held = rw s (ap (λ (b : Bool). cond b (written_file file ++ drop (length (written_file file)) held) held) some) in
    let counted : crossings_after_writing file (length held) ≡ sixteen [] = rw s (ap (λ (b : Bool). sixteen (cond b (crossings_in (written_file file)) [])) some) in
    (rw s, (sym long, (none ∙ sym counted, sym after)))

pub accepted : (file whole held after counts handed : List ℕ) (number long : ℕ) → check_number file ≡ 0 → written_file file ≡ whole → HandedOut whole held after number long
    → counts ≡ sixteen (crossings_in whole) → CountsOut whole held counts handed → Promised file held after number long handed
unfolding write_number written_length crossings_after_writing output_after_writing first_that_holds
accepted file whole held after counts handed number long z w a c b = go (ltb (length held) (length whole)) refl
  where
    go : (short : Bool) → ltb (length held) (length whole) ≡ short → Promised file held after number long handed
    go true e = (rw (z, w) a.number, (rw (z, w, e) (rw e at a.long), (rw (z, w, e) (rw e at b.told), rw (z, w, e) (rw e at a.output))))
    go false e = (rw (z, w) a.number, (rw (z, w, e) (rw e at a.long), (rw (z, w, e) (rw e at b.told ∙ c), rw (z, w, e) (rw e at a.output))))

pub accepted_parts : (file headings nodes front back held after counts handed : List ℕ) (count number long : ℕ) → check_number file ≡ 0
    → written_file file ≡ headings ++ two_bytes count ++ nodes → front ≡ headings → back ≡ nodes → HandedOut (front ++ two_bytes count ++ back) held after number long
    → counts ≡ sixteen (crossings_in (written_file file)) → CountsOut (front ++ two_bytes count ++ back) held counts handed → Promised file held after number long handed
accepted_parts file headings nodes front back held after counts handed count number long z w f b a c d =
    let whole = w ∙ (λ t. sym f t ++ two_bytes count ++ sym b t) in
    accepted file (front ++ two_bytes count ++ back) held after counts handed number long z whole a (c ∙ ap (λ (bytes : List ℕ). sixteen (crossings_in bytes)) whole) d

-- What is written stays inside the output.
written_within : (file : List ℕ) (room : ℕ) → written_length file room ≤ room
unfolding written_length write_number
written_within file room = within_room (check_number file) 15 room (length (written_file file))

pub promised_within : (file held after counts : List ℕ) (number long : ℕ) → Promised file held after number long counts → long ≤ length held
promised_within file held after counts number long p = let e = p.1.0 in let w = written_within file (length held) in omega arith
