-- A file's parameters, one after another, and which of them are private.
use Rattle.std.specs.Prelude.{◌≡◌, ◌∷◌, ◌++◌, ◌+◌, ◌-◌, ◌<◌, ◌≤◌}
use Rattle.kit.specs.Names.{refl, ap, sym, ◌∙◌, subst, Bool, true, false, not, cond, List, [], map, ℕ, suc}
use Rattle.kit.specs.Names.{arith, eqb, length, eq-eqb, ne_eqb}
use Rattle.definitions.specs.Basics.{flat_map}
use Rattle.definitions.specs.ContractFile.{Parameter, data_type_code, byte_at, data_type_of, ParameterRecord, parameter_records, parameter_of}
use Rattle.definitions.specs.Reading.{parameters_read}
use Rattle.definitions.specs.Rewriting.{private_parameters, parameter_bytes}
use Rattle.memory_append.specs.Append.{Appended, Appending}
use Rattle.memory_append.proofs.Appending.{appended_then, appending_room, appending_next, appending_done}
use Rattle.write_parameters.specs.Parameters.{parameter_read, parameters_from, private_count, one_if_private}

pub bool_code : (code : ℕ) → code ≡ 0 → 0 ≡ data_type_code (data_type_of code)
bool_code code h = rw (eq-eqb code 0 h)

pub uint_code : (code : ℕ) → (code ≡ 0 → ⊥) → code ≡ 1 → 1 ≡ data_type_code (data_type_of code)
uint_code code n h = rw (ne_eqb code 0 n, eq-eqb code 1 h)

pub address_code : (code : ℕ) → (code ≡ 0 → ⊥) → (code ≡ 1 → ⊥) → 2 ≡ data_type_code (data_type_of code)
address_code code n m = rw (ne_eqb code 0 n, ne_eqb code 1 m)

-- A parameter's two bytes.
module _ (kind owner : ℕ) where
  abbrev bytes : List ℕ
  bytes = parameter_bytes (parameter_of (parameter_read kind owner))

  public_bytes : owner ≡ 0 → bytes ≡ data_type_code (data_type_of kind) ∷ 0 ∷ []
  unfolding parameter_of
  public_bytes h = ap (λ (b : Bool). cond (not b) (3 ∷ 1 ∷ []) (data_type_code (data_type_of kind) ∷ 0 ∷ [])) (eq-eqb owner 0 h)

  private_bytes : (owner ≡ 0 → ⊥) → bytes ≡ 3 ∷ 1 ∷ []
  unfolding parameter_of
  private_bytes h = ap (λ (b : Bool). cond (not b) (3 ∷ 1 ∷ []) (data_type_code (data_type_of kind) ∷ 0 ∷ [])) (ne_eqb owner 0 h)

  pub public_room : (at most : ℕ) → owner ≡ 0 → at + length bytes ≤ most → at + 2 ≤ most
  public_room at most h fits = let e = ap length (public_bytes h) in omega arith

  pub private_room : (at most : ℕ) → (owner ≡ 0 → ⊥) → at + length bytes ≤ most → at + 2 ≤ most
  private_room at most h fits = let e = ap length (private_bytes h) in omega arith

  module _ (held between after : List ℕ) (at middle end : ℕ) (fits : at + length bytes ≤ length held) where
    pub public_appended : (code : ℕ) → owner ≡ 0 → code ≡ data_type_code (data_type_of kind) → Appended held between at (code ∷ []) middle → Appended between after middle (0 ∷ []) end
        → Appended held after at bytes end
    public_appended code h e a b =
        let room = public_room at (length held) h fits in
        let same : code ∷ 0 ∷ [] ≡ bytes = ap (λ (n : ℕ). n ∷ 0 ∷ []) e ∙ sym (public_bytes h) in
        subst (λ (l : List ℕ). Appended held after at l end) same (appended_then held at between after (code ∷ []) (0 ∷ []) middle end a (omega arith) b)

    pub private_appended : (owner ≡ 0 → ⊥) → Appended held between at (3 ∷ []) middle → Appended between after middle (1 ∷ []) end → Appended held after at bytes end
    private_appended h a b =
        let room = private_room at (length held) h fits in
        subst (λ (l : List ℕ). Appended held after at l end) (sym (private_bytes h)) (appended_then held at between after (3 ∷ []) (1 ∷ []) middle end a (omega arith) b)

module _ (file : List ℕ) where
  parameters_suc : (n at : ℕ) → parameters_from (suc n) file at ≡ parameter_bytes (parameter_of (parameter_read (byte_at file at) (byte_at file (at + 1)))) ++ parameters_from n file (at + 2)
  unfolding parameters_from parameters_read flat_map
  parameters_suc n at = refl

  parameters_next : (left at : ℕ) → 0 < left
      → parameters_from left file at ≡ parameter_bytes (parameter_of (parameter_read (byte_at file at) (byte_at file (at + 1)))) ++ parameters_from (left - 1) file (at + 2)
  parameters_next left at h = let e : left ≡ suc (left - 1) = omega arith in ap (λ (n : ℕ). parameters_from n file at) e ∙ parameters_suc (left - 1) at

  parameters_none : (left at : ℕ) → left ≡ 0 → parameters_from left file at ≡ []
  unfolding parameters_from parameters_read flat_map
  parameters_none left at e = ap (λ (n : ℕ). flat_map parameter_bytes (map parameter_of (parameter_records n file at))) e

  -- The loop over the parameters.
  module _ (held : List ℕ) (from count start : ℕ) (fits : from + length (parameters_from count file start) ≤ length held) where
    abbrev whole : List ℕ
    whole = parameters_from count file start

    module _ (now : List ℕ) (at left place kind owner : ℕ) (some : 0 < left) (k : kind ≡ byte_at file place) (o : owner ≡ byte_at file (place + 1))
        (a : Appending held now from at whole (parameters_from left file place)) where
      here : parameters_from left file place ≡ parameter_bytes (parameter_of (parameter_read kind owner)) ++ parameters_from (left - 1) file (place + 2)
      here =
          parameters_next left place some
          ∙ ap (λ (r : ParameterRecord). parameter_bytes (parameter_of r) ++ parameters_from (left - 1) file (place + 2)) (λ t. parameter_read (sym k t) (sym o t))

      pub parameter_room : at + length (parameter_bytes (parameter_of (parameter_read kind owner))) ≤ length now
      parameter_room =
          appending_room held from whole now (parameter_bytes (parameter_of (parameter_read kind owner))) (parameters_from left file place) (parameters_from (left - 1) file (place + 2)) at here a fits

      pub parameter_appended : (after : List ℕ) (end : ℕ) → Appended now after at (parameter_bytes (parameter_of (parameter_read kind owner))) end
          → Appending held after from end whole (parameters_from (left - 1) file (place + 2))
      parameter_appended after end b =
          appending_next held from whole now (parameter_bytes (parameter_of (parameter_read kind owner))) (parameters_from left file place) (parameters_from (left - 1) file (place + 2)) at here a fits after end b

    pub parameters_done : (now : List ℕ) (at left place : ℕ) → left ≡ 0 → Appending held now from at whole (parameters_from left file place) → Appended held now from whole at
    parameters_done now at left place e a = appending_done held from whole now (parameters_from left file place) at (parameters_none left place e) a

  -- Counting the private ones; their numbers do not change how many they are.
  private_shift : (ps : List Parameter) (k j : ℕ) → length (private_parameters k ps) ≡ length (private_parameters j ps)
  unfolding private_parameters
  private_shift [] k j = refl
  private_shift (p ∷ ps) k j = go p.private (private_shift ps (suc k) (suc j))
    where
      go : (b : Bool) → length (private_parameters (suc k) ps) ≡ length (private_parameters (suc j) ps)
          → length (cond b (k ∷ private_parameters (suc k) ps) (private_parameters (suc k) ps)) ≡ length (cond b (j ∷ private_parameters (suc j) ps) (private_parameters (suc j) ps))
      go true h = ap suc h
      go false h = h

  private_suc : (n at : ℕ) → private_count (suc n) file at ≡ one_if_private (byte_at file (at + 1)) + private_count n file (at + 2)
  unfolding private_count parameters_read private_parameters parameter_of
  private_suc n at = go (not (eqb (byte_at file (at + 1)) 0)) (private_shift (map parameter_of (parameter_records n file (at + 2))) 1 0)
    where
      go : (b : Bool) → length (private_parameters 1 (map parameter_of (parameter_records n file (at + 2)))) ≡ length (private_parameters 0 (map parameter_of (parameter_records n file (at + 2))))
          → length (cond b (0 ∷ private_parameters 1 (map parameter_of (parameter_records n file (at + 2)))) (private_parameters 1 (map parameter_of (parameter_records n file (at + 2)))))
          ≡ cond b 1 0 + length (private_parameters 0 (map parameter_of (parameter_records n file (at + 2))))
      go true h = omega arith
      go false h = omega arith

  pub private_next : (private left place one owner goal : ℕ) → 0 < left → one ≡ one_if_private owner → owner ≡ byte_at file (place + 1) → private + private_count left file place ≡ goal
      → private + one + private_count (left - 1) file (place + 2) ≡ goal
  private_next private left place one owner goal some e o h =
      let s : left ≡ suc (left - 1) = omega arith in
      let n = ap (λ (n : ℕ). private_count n file place) s ∙ private_suc (left - 1) place in
      let f = e ∙ ap one_if_private o in
      omega arith

  pub private_done : (private left place goal : ℕ) → left ≡ 0 → private + private_count left file place ≡ goal → private ≡ goal
  unfolding private_count parameters_read private_parameters
  private_done private left place goal e h =
      let n : private_count left file place ≡ 0 = ap (λ (n : ℕ). private_count n file place) e in omega arith
