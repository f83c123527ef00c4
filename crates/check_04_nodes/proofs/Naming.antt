-- The fields that a node names and the children that it has, by its kind's number.
use Rattle.std.specs.Prelude.{◌≡◌, ◌&&◌, ◌||◌, ◌∷◌, ◌-◌}
use Rattle.kit.specs.Names.{refl, ap, sym, ◌∙◌, Bool, true, false, cond, not, [], ℕ, zero, suc, arith, eqb, leb, ltb}
use Rattle.kit.specs.Names.{take, ne_eqb, eqb-true, eqb-false, leb-true, lt-ltb}
use Rattle.definitions.specs.Basics.{any}
use Rattle.definitions.specs.ContractFile.{NodeRecord, is_final_code, kind_of, node_of, node_of_kind, fields_named}
use Rattle.definitions.specs.ContractFile.{Kind, children}
use Rattle.file_children.specs.Children.{child_count}
use Rattle.file_children.proofs.Truth.{or-false, both_true}
use Rattle.file_children.proofs.Children.{children_are}

-- What a node of a kind names is nothing.
abbrev nothing : ℕ → NodeRecord → Kind → Bool
nothing fields r k = any (leb fields) (fields_named (node_of_kind k r))

-- The same by the kind's number.
abbrev asked : ℕ → NodeRecord → ℕ → Bool
asked fields r k =
    cond (eqb k 8) (is_final_code r.arg && leb fields (r.arg - 16)) ((eqb k 3 || eqb k 4 || eqb k 18 || eqb k 19) && leb fields r.arg)

by_test : (P : ℕ → Type 0) (k n : ℕ) (b : Bool) → eqb k n ≡ b → P n → ((k ≡ n → ⊥) → P k) → P k
by_test P k n true e there other = rw (eqb-true k n e) there
by_test P k n false e there other = other (eqb-false k n e)

module _ (fields : ℕ) (r : NodeRecord) where
  either_kind : (b : Bool) (k l : Kind) → false ≡ nothing fields r k → false ≡ nothing fields r l → false ≡ nothing fields r (cond b k l)
  either_kind true k l e f = e
  either_kind false k l e f = f

  abbrev Right : ℕ → Type 0
  Right k = asked fields r k ≡ nothing fields r (kind_of k)

  others : (k : ℕ) → (k ≡ 3 → ⊥) → (k ≡ 4 → ⊥) → (k ≡ 8 → ⊥) → (k ≡ 18 → ⊥) → (k ≡ 19 → ⊥) → Right k
  unfolding kind_of node_of_kind fields_named any
  others k n3 n4 n8 n18 n19 =
      rw (ne_eqb k 3 n3, ne_eqb k 4 n4, ne_eqb k 8 n8, ne_eqb k 18 n18, ne_eqb k 19 n19)
      (either_kind (eqb k 1) _ _ refl (either_kind (eqb k 2) _ _ refl (either_kind (eqb k 5) _ _ refl
      (either_kind (eqb k 6) _ _ refl (either_kind (eqb k 7) _ _ refl (either_kind (eqb k 16) _ _ refl
      (either_kind (eqb k 17) _ _ refl (either_kind (eqb k 20) _ _ refl (either_kind (eqb k 21) _ _ refl refl)))))))))

  -- By an owner code: 16+f alone names a field.
  revealed : (a b c : Bool) → eqb r.arg 0 ≡ a → eqb r.arg 1 ≡ b → is_final_code r.arg ≡ c → Right 8
  unfolding kind_of node_of_kind fields_named any
  revealed a b true e f g =
      let low = leb-true 16 r.arg (both_true (leb 16 r.arg) (ltb r.arg 80) g).0 in
      rw (ne_eqb r.arg 0 (λ z. omega arith), ne_eqb r.arg 1 (λ z. omega arith), g, or-false (leb fields (r.arg - 16)))
  revealed true b false e f g = rw (e, g)
  revealed false true false e f g = rw (e, f, g)
  revealed false false false e f g = rw (e, f, g)

  pub arg_asked : asked fields r r.kind ≡ any (leb fields) (fields_named (node_of r))
  unfolding kind_of node_of_kind fields_named any
  arg_asked =
      let by_number = sym (or-false (leb fields r.arg)) in
      by_test Right _ 3 _ refl by_number (λ n3. by_test Right _ 4 _ refl by_number (λ n4. by_test Right _ 8 _ refl (revealed _ _ _ refl refl refl)
      (λ n8. by_test Right _ 18 _ refl by_number (λ n18. by_test Right _ 19 _ refl by_number (others r.kind n3 n4 n8 n18)))))

-- The test of the children one after another, as many as there are.
some_part : (test : ℕ → Bool) (count a b c : ℕ)
    → any test (take count (a ∷ b ∷ c ∷ [])) ≡ (not (eqb count 0) && (test a || ltb 1 count && (test b || ltb 2 count && test c)))
unfolding any
some_part test zero a b c = refl
some_part test (suc zero) a b c = refl
some_part test (suc (suc zero)) a b c = refl
some_part test (suc (suc (suc zero))) a b c = rw (or-false (test c))
some_part test (suc (suc (suc (suc n)))) a b c =
    rw (ne_eqb (suc (suc (suc (suc n)))) 0 (λ e. omega arith), lt-ltb 1 (suc (suc (suc (suc n)))) (omega arith), lt-ltb 2 (suc (suc (suc (suc n)))) (omega arith))
    (rw (or-false (test c)))

pub some_child : (test : ℕ → Bool) (r : NodeRecord) (count : ℕ) → count ≡ child_count r.kind
    → (not (eqb count 0) && (test r.first || ltb 1 count && (test r.second || ltb 2 count && test r.third))) ≡ any test (children (node_of r))
some_child test r count is =
    sym (ap (any test) (children_are r) ∙ ap (λ (n : ℕ). any test (take n (r.first ∷ r.second ∷ r.third ∷ []))) (sym is) ∙ some_part test count _ _ _)
