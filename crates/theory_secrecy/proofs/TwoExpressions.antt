-- Two runs of the original work out an expression: if they disclose the same to a party, they look the same to it.
use Rattle.std.specs.Prelude.{◌≡◌, ◌&&◌, ◌||◌}
use Rattle.kit.specs.Names.{refl, ap, ap₂, ◌∙◌, Bool, true, false, not, List, [], ℕ, get_or}
use Rattle.definitions.specs.Basics.{is_zero}
use Rattle.definitions.specs.ContractFile.{Name, me_name, everyone, owned_by, Operator, Expression, constant, me, field, entry, parameter, operator, negation, reveal, Scope, is_division}
use Rattle.definitions.specs.Owners.{Links, is_reader, owner_of, is_public}
use Rattle.definitions.specs.Numbers.{expression_faults}
use Rattle.definitions.specs.Original.{position, may_read, reader_of, operate, operates, negate, value, is_worked_out, disclosed}
use Rattle.definitions.specs.Rewriting.{BodyExpression, Circuit, in_body}
use Rattle.theory_laws.proofs.TruthValues.{and_left, and_right, not_false_true, or_right}
use Rattle.theory_relations.specs.Acceptance.{FieldsFit, constants_fit}
use Rattle.theory_relations.specs.Environment.{Environment}
use Rattle.theory_relations.specs.Secrecy.{Agree, ArgumentsAgree}
use Rattle.theory_typing.proofs.Basics.{and_right_false}
use Rattle.theory_typing.proofs.Faults.{entry_read_fits, operator_fits, negation_fits, reveal_fits}
use Rattle.theory_typing.proofs.Readers.{field_reader, entry_reader}
use Rattle.theory_secrecy.proofs.SideBySide.{SideBySide, both_complete, with_outcome, one_after_other, with_test, with_value}
use Rattle.theory_typing.proofs.Links.{LinksSound}
use Rattle.theory_secrecy.proofs.Reading.{Reads, reads_public, reads_caller, reads_parts}
use Rattle.theory_secrecy.proofs.Supplied.{supplies_kept, supplies_one_part, supplies_two_parts, supplies_reading, supplies_supplying, supplies_cond}
use Rattle.theory_secrecy.proofs.AlikeExpressions.{AlikeExpression}

-- A division by what both runs agree on; other operators ask nothing of the divisor.
same_operates : (o : Operator) (v v' : ℕ) → (is_division o ≡ true → v ≡ v') → operates o v ≡ operates o v'
same_operates o v v' h = go (is_division o) h
  where
    go : (b : Bool) → (b ≡ true → v ≡ v') → not (b && is_zero v) ≡ not (b && is_zero v')
    go true h = ap (λ n. not (is_zero n)) (h refl)
    go false h = refl

-- A divisor is public.
divisor_public : (scope : Scope) (o : Operator) (left right : Expression) → (is_division o && (not (is_public scope left) || not (is_public scope right))) ≡ false
    → is_division o ≡ true → is_public scope right ≡ true
divisor_public scope o left right h d =
    let private : Bool = not (is_public scope left) || not (is_public scope right) in
    not_false_true (is_public scope right) (or_right (not (is_public scope left)) (not (is_public scope right)) (and_right_false (is_division o) private h d))

module _ (scope : Scope) (address_of : Name → ℕ) (party : ℕ) (arguments arguments' places places' : List ℕ) where
  abbrev Alike : Expression → Type 0
  Alike = AlikeExpression scope address_of party arguments arguments' places places'

  module _ (linked : Links) (sound : LinksSound address_of linked) where
    alike_operator : (o : Operator) (left right : Expression) → is_reader linked (owner_of scope left) ≡ true → is_reader linked (owner_of scope right) ≡ true
        → Alike left → Alike right → Alike (operator o left right)
    unfolding value owner_of in_body
    alike_operator o left right read_left read_right p q =
        let e = operator o left right in
        let same : Reads address_of party (owner_of scope e) → _ = λ may.
        let parts = reads_parts address_of party linked sound (owner_of scope left) (owner_of scope right) read_left read_right may in
        ap₂ (operate o) (p.same parts.0) (q.same parts.1) in
        let for_caller : Reads address_of party (owned_by me_name) → _ = λ may.
        ap₂ (operate o) (p.same (reads_caller address_of party linked sound (owner_of scope left) read_left may))
        (q.same (reads_caller address_of party linked sound (owner_of scope right) read_right may)) in
        let bodies = supplies_two_parts (BodyExpression.operator o) p.body q.body in
        let inside = supplies_cond (is_public scope e && is_division o) (supplies_reading everyone e bodies)
        (supplies_two_parts (Circuit.operator o) p.circuit q.circuit) in
        record { same = same; body = supplies_cond (is_public scope e) bodies (supplies_supplying (owned_by me_name) e for_caller inside); circuit = inside }

    alike_negation : (part : Expression) → is_reader linked (owner_of scope part) ≡ true → Alike part → Alike (negation part)
    unfolding value owner_of in_body
    alike_negation part read_part p =
        let e = negation part in
        let for_caller : Reads address_of party (owned_by me_name) → _ = λ may.
        ap negate (p.same (reads_caller address_of party linked sound (owner_of scope part) read_part may)) in
        let inside = supplies_one_part Circuit.negation p.circuit in
        record {
          same = λ may. ap negate (p.same (reads_parts address_of party linked sound (owner_of scope part) everyone read_part refl may).0);
          body = supplies_cond (is_public scope e) (supplies_one_part BodyExpression.negation p.body) (supplies_supplying (owned_by me_name) e for_caller inside);
          circuit = inside;
        }

  module _ (fit : FieldsFit scope.fields) (environment : Environment scope address_of arguments places) (agree : Agree party address_of scope.fields places places')
      (agree_arguments : ArgumentsAgree party address_of scope arguments arguments') (linked : Links) (sound : LinksSound address_of linked) where
    pub two_expressions : (e : Expression) → expression_faults scope linked e ≡ [] → constants_fit e ≡ true
        → SideBySide (is_worked_out scope.fields address_of arguments places e) (is_worked_out scope.fields address_of arguments' places' e)
        (disclosed scope.fields address_of arguments party places e) (disclosed scope.fields address_of arguments' party places' e) (Alike e)
    unfolding value is_worked_out disclosed owner_of in_body constants_fit
    two_expressions (constant t v) h c = both_complete (record { same = λ _. refl; body = supplies_kept _; circuit = supplies_kept _ })
    two_expressions me h c = both_complete (record { same = λ _. refl; body = supplies_kept _; circuit = supplies_kept _ })
    two_expressions (field f) h c =
        let reader = field_reader scope address_of fit linked f h in
        both_complete (record {
          same = λ may. agree.each (position scope.fields f 0) (rw reader may);
          body = supplies_kept _;
          circuit = supplies_reading _ _ (supplies_kept _);
        })
    two_expressions (entry f key) h c =
        let fits = entry_read_fits scope linked f key h in
        let reader = entry_reader scope address_of arguments places environment linked f key h c in
        with_outcome (two_expressions key fits.key_faults c) λ q.
        record {
          same = λ may.
              agree.each (position scope.fields f (value scope.fields address_of arguments places key)) (rw reader may)
              ∙ ap (λ x. get_or places' (position scope.fields f x) 0) (q.same (reads_public address_of party (owner_of scope key) fits.fits.public));
          body = supplies_one_part _ q.body;
          circuit = supplies_reading _ _ (supplies_one_part _ q.body);
        }
    two_expressions (parameter k) h c =
        both_complete (record { same = agree_arguments.each k; body = supplies_kept _; circuit = supplies_reading _ _ (supplies_kept _) })
    two_expressions (operator o left right) h c =
        let fits = operator_fits scope linked o left right h in
        let first = two_expressions left fits.left_faults (and_left (constants_fit left) (constants_fit right) c) in
        let second = two_expressions right fits.right_faults (and_right (constants_fit left) (constants_fit right) c) in
        let divisor : is_division o ≡ true → Reads address_of party (owner_of scope right) = λ d.
        reads_public address_of party (owner_of scope right) (divisor_public scope o left right fits.division d) in
        with_outcome (with_test (one_after_other first (λ _. second)) (λ q. same_operates o _ _ (λ d. q.1.same (divisor d)))) λ q.
        alike_operator linked sound o left right fits.left_readable fits.right_readable q.0.0 q.0.1
    two_expressions (negation part) h c =
        let fits = negation_fits scope linked part h in
        with_outcome (two_expressions part fits.part_faults c) (alike_negation linked sound part fits.readable)
    two_expressions (reveal part o) h c =
        with_outcome (with_value (may_read party (reader_of address_of o)) _ _ (two_expressions part (reveal_fits scope linked part o h).part_faults c)) λ q.
        record { same = q.1; body = supplies_supplying _ _ q.1 q.0.circuit; circuit = q.0.circuit }
