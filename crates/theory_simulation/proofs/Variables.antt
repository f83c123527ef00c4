-- Supplied and read variables: a supplied one holds the value of its expression, and a read one gives a circuit what it was set to.
use Rattle.std.specs.Prelude.{◌≡◌, ◌&&◌, ◌∷◌, ◌++◌, ◌+◌}
use Rattle.kit.specs.Names.{refl, sym, ◌∙◌, Bool, true, and-true, List, [], append_assoc, ℕ, suc, length}
use Rattle.kit.specs.Names.{get_or_at, set_at, append_snoc}
use Rattle.definitions.specs.Basics.{all}
use Rattle.definitions.specs.ContractFile.{Name, Owner, everyone, owned_by, Expression, is_of_type, type_of}
use Rattle.definitions.specs.Rewriting.{BodyExpression, Circuit, read_from, Generator, supplying, reading, read_form}
use Rattle.definitions.specs.Original.{reader_of, value}
use Rattle.definitions.specs.Ledger.{Content, plain, content_for, content_at, content_of, is_walked, circuit_value, honest_contents}
use Rattle.theory_relations.specs.Standing.{Stands}
use Rattle.theory_simulation.proofs.Truth.{cut_first, cut_second, length_with, length_with_one}
use Rattle.theory_simulation.proofs.Standing.{content_is_of}
use Rattle.theory_simulation.proofs.Held.{holding, none, next, held_append, held_length}
use Rattle.theory_simulation.proofs.Pieces.{Call, claims_hold, claims_hold_append, content_in, walked_in, after_steps_append, steps_walked_append, honest, honest_append, Faithful}

module _ (address_of : Name → ℕ) where
  read_form_law : (o : Owner) (variables : List Content) (i : ℕ) (content : Content) (number : ℕ) → content_at variables i ≡ content
      → Stands (reader_of address_of o) content number → circuit_value address_of variables (read_form o i) ≡ number
  unfolding circuit_value
  read_form_law everyone variables i content number e h = rw (e, h.is)
  read_form_law (owned_by n) variables i content number e h = rw (e, h.is)

abbrev pub original_value : Call → List ℕ → Expression → ℕ
original_value c numbers e = value c.scope.fields c.address_of c.arguments numbers e

module _ (c : Call) (places : List Content) (numbers : List ℕ) where
  abbrev pub BodyFaithful : Owner → ℕ → Generator BodyExpression → Bool → ℕ → Type 0
  BodyFaithful o number = Faithful c places numbers (content_in c places) (walked_in c places) (λ x. Stands (reader_of c.address_of o) x number)

  abbrev pub CircuitFaithful : ℕ → Generator Circuit → Bool → ℕ → Type 0
  CircuitFaithful number = Faithful c places numbers (circuit_value c.address_of) (λ variables circuit. true) (λ n. n ≡ number)

  pub supplying_faithful : {m : Generator Circuit} {s : Bool} (o : Owner) (e : Expression) (i : ℕ)
      → is_of_type (type_of c.scope e) (original_value c numbers e) ≡ true
      → CircuitFaithful (original_value c numbers e) m s (suc i) → BodyFaithful o (original_value c numbers e) (supplying o e m) s i
  unfolding supplying content_of is_walked honest_contents claims_hold all
  supplying_faithful {m} o e i typed u =
      let n = original_value c numbers e in
      let x = content_for (reader_of c.address_of o) c.number (8 + i) n in
      let stands : Stands (reader_of c.address_of o) x n = record { call = c.number; index = 8 + i; is = refl } in
      let there : (xs : List Content) → length xs ≡ i → length (xs ++ (x ∷ [])) ≡ suc i = λ xs z. length_with_one xs x i z in
      record {
        finals = x ∷ u.finals;
        held = next (holding n typed stands) u.held;
        result = x;
        good = stands;
        walked_before = u.walked_before;
        walked_then = u.walked_then;
        both = u.both;
        steps = λ xs ys z. rw (
          ← append_snoc xs x (honest c numbers (suc i) (m (suc i)).variables ++ ys),
          u.steps (xs ++ (x ∷ [])) ys (there xs z),
        ) (append_snoc xs x (u.finals ++ ys));
        steps_walk = λ xs ys z. rw (← append_snoc xs x) (u.steps_walk (xs ++ (x ∷ [])) ys (there xs z));
        gives = λ xs ys z. get_or_at xs x (u.finals ++ ys) (plain 0) i z;
        form_walks = λ xs ys z. u.form_walks (xs ++ (x ∷ [])) ys (there xs z);
        claims = λ xs ys z.
            rw (
              claims_hold_append c,
              get_or_at xs x (u.finals ++ ys) (plain 0) i z,
              ← append_snoc xs x (u.finals ++ ys),
              u.claims (xs ++ (x ∷ [])) ys (there xs z),
              u.gives (xs ++ (x ∷ [])) ys (there xs z),
              u.good,
              content_is_of (reader_of c.address_of o) c.number (8 + i) n,
            );
      }

  pub reading_faithful : {m : Generator BodyExpression} {s : Bool} {n : ℕ} (o : Owner) (e : Expression) (i : ℕ)
      → is_of_type (type_of c.scope e) n ≡ true
      → BodyFaithful o n m s i → CircuitFaithful n (reading o e m) s i
  unfolding reading honest_contents
  reading_faithful {m} {n = n} o e i typed u =
      let va = (m i).variables in
      let j = i + length va in
      let read = read_from o e ∷ [] in
      let there : (xs : List Content) → length xs ≡ i → length (xs ++ u.finals) ≡ j =
      λ xs z. length_with xs u.finals va i z (held_length u.held) in
      record {
        finals = u.finals ++ (u.result ∷ []);
        held = held_append u.held (next (holding n typed u.good) none);
        result = n;
        good = refl;
        walked_before = u.walked_before && u.walked_then;
        walked_then = true;
        both = and-true (u.walked_before && u.walked_then) ∙ u.both;
        steps = λ xs ys z.
            rw (
              honest_append c numbers i va read,
              cut_first xs (honest c numbers i va) (plain 0 ∷ []) ys,
              after_steps_append c places,
              u.steps xs (plain 0 ∷ ys) z,
              u.gives xs (plain 0 ∷ ys) z,
              ← append_assoc xs u.finals (plain 0 ∷ ys),
              set_at (xs ++ u.finals) (plain 0) ys u.result j (there xs z),
            ) (sym (cut_second xs u.finals (u.result ∷ []) ys));
        steps_walk = λ xs ys z.
            rw (
              honest_append c numbers i va read,
              cut_first xs (honest c numbers i va) (plain 0 ∷ []) ys,
              steps_walked_append c places,
              u.steps_walk xs (plain 0 ∷ ys) z,
              u.steps xs (plain 0 ∷ ys) z,
              u.form_walks xs (plain 0 ∷ ys) z,
              and-true,
            );
        gives = λ xs ys z.
            read_form_law c.address_of o (xs ++ ((u.finals ++ (u.result ∷ [])) ++ ys)) j u.result n
            (rw (cut_second xs u.finals (u.result ∷ []) ys) (get_or_at (xs ++ u.finals) u.result ys (plain 0) j (there xs z))) u.good;
        form_walks = λ xs ys z. refl;
        claims = λ xs ys z. rw (cut_first xs u.finals (u.result ∷ []) ys) (u.claims xs (u.result ∷ ys) z);
      }
