-- The column that judging fills holds, at each node of each function, its owner in that function's scope.
use Rattle.std.specs.Prelude.{◌≡◌, ◌∷◌, ◌⊎◌, ◌<◌, ◌≤◌}
use Rattle.kit.specs.Names.{refl, ◌∙◌, Bool, true, false, List, [], map, Member, member_head, member_tail, member_not_nil, inl, inr, ℕ, zero, suc}
use Rattle.kit.specs.Names.{arith, eqb, length, get_or, set, length-set, get_or-set_same, get_or-set_other, eqb-true, eqb-false}
use Rattle.definitions.specs.ContractFile.{FunctionRecord, Field, Sections, Node, field_of, node_of}
use Rattle.definitions.specs.Numbers.{names_nothing, used_other_than_once}
use Rattle.rules_marks.specs.Marks.{statement, statements_under, marked, owner_at}
use Rattle.rules_marks.proofs.Marking.{marked_length}
use Rattle.rules_contract.specs.Sections.{scope_of_record, functions_marked}
use Rattle.rules_column.specs.Columns.{Holds, Under, top}
use Rattle.rules_column.proofs.Uses.{numbers_under_law, none_twice, under_inside, one_function}

-- Where all that is marked at m is v, and v is marked there or stood there before, v stands there.
module _ (m v : ℕ) where
  marked_so : (owner : ℕ → ℕ) (ns column : List ℕ) → m < length column → (Member m ns → owner m ≡ v) → Member m ns ⊎ (get_or column m 0 ≡ v)
      → get_or (marked owner ns column) m 0 ≡ v
  unfolding marked
  marked_so owner [] column l each (inl d) = absurd (member_not_nil d)
  marked_so owner [] column l each (inr h) = h
  marked_so owner (n ∷ ns) column l each s =
      let same = length-set column n (owner n) in
      marked_so owner ns (set column n (owner n)) (omega arith) (λ d. each (member_tail d)) (step (eqb m n) refl s)
    where
      step : (b : Bool) → eqb m n ≡ b → Member m (n ∷ ns) ⊎ (get_or column m 0 ≡ v) → Member m ns ⊎ (get_or (set column n (owner n)) m 0 ≡ v)
      step true e s = let same = eqb-true m n e in inr (rw (← same) (get_or-set_same column m (owner m) 0 l ∙ each (member_head same)))
      step false e (inl (member_head h)) = absurd (eqb-false m n e h)
      step false e (inl (member_tail d)) = inl d
      step false e (inr h) = inr (get_or-set_other column n m (owner n) 0 (eqb-false m n e) ∙ h)

  module _ (fields : List Field) (nodes : List Node) (other : FunctionRecord) where
    abbrev owner_by : FunctionRecord → ℕ → ℕ
    owner_by r = owner_at (scope_of_record fields r) nodes

    abbrev Of : FunctionRecord → Type 0
    Of r = Member m (statements_under nodes r.root)

    functions_so : (rs : List FunctionRecord) (column : List ℕ) → m < length column
        → ((g : ℕ) → g < length rs → Of (get_or rs g other) → owner_by (get_or rs g other) m ≡ v)
        → ((f : ℕ) × (f < length rs) × Of (get_or rs f other)) ⊎ (get_or column m 0 ≡ v) → get_or (functions_marked fields nodes rs column) m 0 ≡ v
    unfolding functions_marked
    functions_so [] column l each (inl t) = let none = t.1 in absurd (omega arith)
    functions_so [] column l each (inr h) = h
    functions_so (r ∷ rs) column l each s =
        let same = marked_length (owner_by r) (statements_under nodes r.root) column in
        functions_so rs (marked (owner_by r) (statements_under nodes r.root) column) (omega arith) (λ g h. each (suc g) (omega arith)) (step s)
      where
        here : Of r ⊎ (get_or column m 0 ≡ v) → get_or (marked (owner_by r) (statements_under nodes r.root) column) m 0 ≡ v
        here = marked_so (owner_by r) (statements_under nodes r.root) column l (each 0 (omega arith))

        step : ((f : ℕ) × (f < length (r ∷ rs)) × Of (get_or (r ∷ rs) f other)) ⊎ (get_or column m 0 ≡ v)
            → ((f : ℕ) × (f < length rs) × Of (get_or rs f other)) ⊎ (get_or (marked (owner_by r) (statements_under nodes r.root) column) m 0 ≡ v)
        step (inl (zero, i, d)) = inr (here (inl d))
        step (inl (suc f, i, d)) = inl (f, omega arith, d)
        step (inr h) = inr (here (inr h))

-- No node is under two functions, so none overwrites what another marked.
pub column_holds : (s : Sections) → names_nothing s ≡ false → used_other_than_once s ≡ false → (column : List ℕ) → length s.nodes ≤ length column
    → (f : ℕ) (other : FunctionRecord) → f < length s.functions
    → let r = get_or s.functions f other in
    Holds (owner_at (scope_of_record (map field_of s.fields) r) (map node_of s.nodes)) (statements_under (map node_of s.nodes) r.root)
    (functions_marked (map field_of s.fields) (map node_of s.nodes) s.functions column)
column_holds s named once column long f other inside =
    record {
      at = λ m d.
          let here = under_inside s named other f m inside (under f m d) in
          functions_so m (owner_by m 0 (map field_of s.fields) nodes other (get_or s.functions f other) m) (map field_of s.fields) nodes other
          s.functions column (omega arith)
          (λ g within e. let same = one_function s named other (none_twice s once) f g inside within m (under f m d) (under g m e) in rw (← same))
          (inl (f, inside, d));
    }
  where
    nodes : List Node
    nodes = map node_of s.nodes

    root : ℕ → ℕ
    root g = (get_or s.functions g other).root

    under : (g m : ℕ) → Member m (statements_under nodes (root g)) → Under nodes (root g) m
    under g m d = numbers_under_law nodes (root g) (suc (root g)) (statement (root g)) m (top refl) d
