-- Two runs of the original complete a statement: if they disclose the same to a party, they look the same to it afterwards.
use Rattle.std.specs.Prelude.{◌≡◌, ◌&&◌, ◌∷◌, ◌+◌}
use Rattle.kit.specs.Names.{refl, ap, sym, ◌∙◌, Bool, true, false, cond, false≢true, true≢false, List, [], none, ℕ, zero}
use Rattle.kit.specs.Names.{suc, arith, length, get_or, set, replicate}
use Rattle.definitions.specs.Basics.{is_true}
use Rattle.definitions.specs.ContractFile.{Name, Owner, Expression, Statement, skip, sequence, assign_field, assign_entry, require, conditional, Field, Scope, field_at}
use Rattle.definitions.specs.Owners.{Links, place_owner, name_of, owner_of, links_of_condition, links_after}
use Rattle.definitions.specs.Numbers.{may_be_put, statement_faults}
use Rattle.definitions.specs.Original.{position, anyone, may_read, reader_of, value, places_after, completes, disclosed_by}
use Rattle.definitions.specs.Ledger.{plain, honest_variables}
use Rattle.definitions.specs.Rewriting.{Command, Guard, under, in_body, in_place, in_branch, rewrite_statement, single}
use Rattle.theory_laws.proofs.TruthValues.{and_left, and_right}
use Rattle.theory_relations.specs.Acceptance.{FieldsFit, constants_fit, constants_fit_in}
use Rattle.theory_relations.specs.Environment.{Environment}
use Rattle.theory_relations.specs.Standing.{readers_of}
use Rattle.theory_relations.specs.Secrecy.{Agree, ArgumentsAgree}
use Rattle.theory_typing.proofs.Faults.{sequence_fits, assign_field_fits, assign_entry_fits, require_fits, conditional_fits}
use Rattle.theory_typing.proofs.Environments.{environment_after}
use Rattle.theory_typing.proofs.Readers.{assigned_field_reader, assigned_entry_reader}
use Rattle.theory_secrecy.proofs.SideBySide.{SideBySide, both_complete, with_outcome, one_after_other, with_test, one_of_two}
use Rattle.theory_secrecy.proofs.AlikeContents.{AlikeContents, alike_itself, alike_append, alike_cons}
use Rattle.theory_typing.proofs.Links.{LinksSound, sound_in_first, sound_in_second, condition_links_sound}
use Rattle.theory_secrecy.proofs.Reading.{reads_public, reads_put}
use Rattle.theory_secrecy.proofs.Supplied.{Supplies, supplies_one_part, supplies_two_parts}
use Rattle.theory_secrecy.proofs.AlikeExpressions.{SameFor, AlikeExpression, alike_in_place, alike_honest}
use Rattle.theory_secrecy.proofs.TwoExpressions.{two_expressions}

-- One place written in two lists of one length.
both_set : (l l' : List ℕ) (p q v v' : ℕ) → length l ≡ length l' → get_or l p 0 ≡ get_or l' p 0 → (p ≡ q → v ≡ v') → get_or (set l q v) p 0 ≡ get_or (set l' q v') p 0
both_set [] [] p q v v' n e h = refl
both_set [] (x ∷ l') p q v v' n e h = absurd (omega (arith, n))
both_set (x ∷ l) [] p q v v' n e h = absurd (omega (arith, n))
both_set (x ∷ l) (x' ∷ l') zero zero v v' n e h = h refl
both_set (x ∷ l) (x' ∷ l') zero (suc q) v v' n e h = e
both_set (x ∷ l) (x' ∷ l') (suc p) zero v v' n e h = e
both_set (x ∷ l) (x' ∷ l') (suc p) (suc q) v v' n e h = both_set l l' p q v v' (omega (arith, n)) e (λ z. h (ap suc z))

agree_set : {party : ℕ} {address_of : Name → ℕ} {fields : List Field} {numbers numbers' : List ℕ} (q q' v v' : ℕ) → length numbers ≡ length numbers'
    → Agree party address_of fields numbers numbers' → q ≡ q' → (may_read party (get_or (readers_of address_of fields) q anyone) ≡ true → v ≡ v')
    → Agree party address_of fields (set numbers q v) (set numbers' q' v')
agree_set {party} {address_of} {fields} {numbers} {numbers'} q q' v v' n agree e h =
    record {
      each = λ p may.
          both_set numbers numbers' p q v v' n (agree.each p may) (λ z. h (ap (λ x. may_read party (get_or (readers_of address_of fields) x anyone)) (sym z) ∙ may))
          ∙ ap (λ x. get_or (set numbers' x v') p 0) e;
    }

module _ (scope : Scope) (address_of : Name → ℕ) (party : ℕ) (arguments arguments' : List ℕ) where
  -- What the two runs have in common of a statement, after it.
  pub record AlikeStatement (linked : Links) (s : Statement) (places places' : List ℕ) : Type 0 where
    pub sound : LinksSound address_of (links_after scope s linked)
    pub agree : Agree party address_of scope.fields (places_after scope.fields address_of arguments places s) (places_after scope.fields address_of arguments' places' s)
    pub variables :
        (call : ℕ) (g : Guard) (i : ℕ)
        → AlikeContents party (honest_variables scope address_of call arguments s places g i) (honest_variables scope address_of call arguments' s places' g i)

  alike_sequence : {linked : Links} {first second : Statement} {places places' : List ℕ} → AlikeStatement linked first places places'
      → AlikeStatement (links_after scope first linked) second (places_after scope.fields address_of arguments places first) (places_after scope.fields address_of arguments' places' first)
      → AlikeStatement linked (sequence first second) places places'
  unfolding links_after places_after honest_variables
  alike_sequence {first = first} p q =
      record {
        sound = q.sound;
        agree = q.agree;
        variables = λ call g i. alike_append (p.variables call g i) (q.variables call g (i + length (rewrite_statement scope first g i).variables));
      }

  -- A value put into a place whose owner it may be put for, at a position that both runs agree on.
  alike_put : (linked : Links) (place : Owner) (q q' : ℕ) (e : Expression) (places places' : List ℕ) → LinksSound address_of linked → length places ≡ length places'
      → Agree party address_of scope.fields places places' → q ≡ q' → get_or (readers_of address_of scope.fields) q anyone ≡ reader_of address_of place
      → may_be_put linked (owner_of scope e) place ≡ true → AlikeExpression scope address_of party arguments arguments' places places' e
      → Agree party address_of scope.fields (set places q (value scope.fields address_of arguments places e)) (set places' q' (value scope.fields address_of arguments' places' e))
      × Supplies (SameFor scope address_of party arguments arguments' places places') (in_place (owner_of scope) place e)
  alike_put linked place q q' e places places' sound n agree z reader put p =
      let same : SameFor scope address_of party arguments arguments' places places' place e =
      λ may. p.same (reads_put address_of party linked sound (owner_of scope e) place put may) in
      (agree_set q q' _ _ n agree z (λ may. same (rw reader at may)), alike_in_place scope address_of party arguments arguments' places places' place e same p)

  alike_conditional : (linked : Links) (condition : Expression) (then else : Statement) (places places' : List ℕ) (b b' : Bool)
      → is_true (value scope.fields address_of arguments places condition) ≡ b → is_true (value scope.fields address_of arguments' places' condition) ≡ b' → b ≡ b'
      → AlikeExpression scope address_of party arguments arguments' places places' condition
      → cond b (AlikeStatement (links_of_condition scope condition linked) then places places') (AlikeStatement linked else places places')
      → AlikeStatement linked (conditional condition then else) places places'
  unfolding links_after places_after honest_variables
  alike_conditional linked condition then else places places' true true z z' d p q =
      record {
        sound = sound_in_first address_of (links_after scope then (links_of_condition scope condition linked)) (links_after scope else linked) q.sound;
        agree = rw (z, z') q.agree;
        variables = λ call g i.
            rw (z, z') (alike_append (alike_honest scope address_of party arguments arguments' places places' call i (p.body.at i))
            (alike_append (alike_cons refl (q.variables call _ _)) (alike_itself party _)));
      }
  alike_conditional linked condition then else places places' true false z z' d p q = absurd (true≢false d)
  alike_conditional linked condition then else places places' false true z z' d p q = absurd (false≢true d)
  alike_conditional linked condition then else places places' false false z z' d p q =
      record {
        sound = sound_in_second address_of (links_after scope then (links_of_condition scope condition linked)) (links_after scope else linked) q.sound;
        agree = rw (z, z') q.agree;
        variables = λ call g i.
            let j = i + length (in_body (owner_of scope) condition i).variables in
            let passed = length (in_branch (rewrite_statement scope then) j).variables in
            rw (z, z') (alike_append (alike_honest scope address_of party arguments arguments' places places' call i (p.body.at i))
            (alike_append {l = replicate passed (plain 0)} (alike_itself party _) (alike_cons {c = plain 0} refl (q.variables call (under (j + passed)) (suc (j + passed))))));
      }

  module _ (fit : FieldsFit scope.fields) (agree_arguments : ArgumentsAgree party address_of scope arguments arguments') where
    pub two_statements : (linked : Links) (s : Statement) (places places' : List ℕ) → Environment scope address_of arguments places → Environment scope address_of arguments' places'
        → Agree party address_of scope.fields places places' → LinksSound address_of linked → statement_faults scope linked s ≡ [] → constants_fit_in s ≡ true
        → SideBySide (completes scope.fields address_of arguments places s) (completes scope.fields address_of arguments' places' s)
        (disclosed_by scope.fields address_of arguments party places s) (disclosed_by scope.fields address_of arguments' party places' s)
        (AlikeStatement linked s places places')
    unfolding completes disclosed_by places_after links_after honest_variables constants_fit_in rewrite_statement single
    two_statements linked skip places places' env env' agree sound h c =
        both_complete (record { sound = sound; agree = agree; variables = λ call g i. alike_itself party [] })
    two_statements linked (sequence first second) places places' env env' agree sound h c =
        let fits = sequence_fits scope linked first second h in
        let first_fits = and_left (constants_fit_in first) (constants_fit_in second) c in
        let after = environment_after scope address_of arguments places env linked first fits.first_faults first_fits in
        let after' = environment_after scope address_of arguments' places' env' linked first fits.first_faults first_fits in
        with_outcome (one_after_other (two_statements linked first places places' env env' agree sound fits.first_faults first_fits)
        (λ q. two_statements (links_after scope first linked) second _ _ after after' q.agree q.sound fits.second_faults (and_right (constants_fit_in first) (constants_fit_in second) c)))
        λ q. alike_sequence q.0 q.1
    two_statements linked (assign_field f e) places places' env env' agree sound h c =
        let fits = assign_field_fits scope linked f e h in
        let n = env.extent ∙ sym env'.extent in
        let place = place_owner (field_at scope.fields f).owner none in
        let q = position scope.fields f 0 in
        with_outcome (two_expressions scope address_of party arguments arguments' places places' fit env agree agree_arguments linked sound e fits.value_fit.faultless c) λ p.
        let put = alike_put linked place q q e places places' sound n agree refl (assigned_field_reader scope address_of fit linked f e h) fits.value_fit.puttable p in
        record {
          sound = sound;
          agree = put.0;
          variables = λ call g i. alike_honest scope address_of party arguments arguments' places places' call i ((supplies_one_part (Command.assign_field f) put.1).at i);
        }
    two_statements linked (assign_entry f key e) places places' env env' agree sound h c =
        let fits = assign_entry_fits scope linked f key e h in
        let n = env.extent ∙ sym env'.extent in
        let place = place_owner (field_at scope.fields f).owner (name_of scope key) in
        let first = two_expressions scope address_of party arguments arguments' places places' fit env agree agree_arguments linked sound key fits.key_faults
        (and_left (constants_fit key) (constants_fit e) c) in
        let second = two_expressions scope address_of party arguments arguments' places places' fit env agree agree_arguments linked sound e fits.value_fit.faultless
        (and_right (constants_fit key) (constants_fit e) c) in
        with_outcome (one_after_other first (λ _. second)) λ p.
        let same_key = p.0.same (reads_public address_of party (owner_of scope key) fits.fits.public) in
        let put = alike_put linked place _ _ e places places' sound n agree (ap (position scope.fields f) same_key)
        (assigned_entry_reader scope address_of arguments places env linked f key e h c) fits.value_fit.puttable p.1 in
        record {
          sound = sound;
          agree = put.0;
          variables = λ call g i.
              alike_honest scope address_of party arguments arguments' places places' call i ((supplies_two_parts (Command.assign_entry f) p.0.body put.1).at i);
        }
    two_statements linked (require condition) places places' env env' agree sound h c =
        let fits = require_fits scope linked condition h in
        let may = reads_public address_of party (owner_of scope condition) fits.public in
        with_outcome (with_test (two_expressions scope address_of party arguments arguments' places places' fit env agree agree_arguments linked sound condition fits.faultless c)
        (λ p. ap is_true (p.same may))) λ p.
        record {
          sound = condition_links_sound address_of scope arguments places env condition linked p.1 sound;
          agree = agree;
          variables = λ call g i.
              alike_honest scope address_of party arguments arguments' places places' call i ((supplies_one_part Command.require p.0.body).at i);
        }
    two_statements linked (conditional condition then else) places places' env env' agree sound h c =
        let fits = conditional_fits scope linked condition then else h in
        let may = reads_public address_of party (owner_of scope condition) fits.condition_fit.public in
        let branches = and_right (constants_fit condition) (constants_fit_in then && constants_fit_in else) c in
        let first = two_expressions scope address_of party arguments arguments' places places' fit env agree agree_arguments linked sound condition fits.condition_fit.faultless
        (and_left (constants_fit condition) (constants_fit_in then && constants_fit_in else) c) in
        with_outcome (one_after_other first (λ p.
        one_of_two (is_true (value scope.fields address_of arguments places condition)) (is_true (value scope.fields address_of arguments' places' condition)) (ap is_true (p.same may))
        (λ taken. two_statements (links_of_condition scope condition linked) then places places' env env' agree
        (condition_links_sound address_of scope arguments places env condition linked taken sound)
        fits.then_faults (and_left (constants_fit_in then) (constants_fit_in else) branches))
        (two_statements linked else places places' env env' agree sound fits.else_faults (and_right (constants_fit_in then) (constants_fit_in else) branches))))
        λ p. alike_conditional linked condition then else places places' _ _ refl refl (ap is_true (p.0.same may)) p.0 p.1
