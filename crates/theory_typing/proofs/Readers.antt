-- The reader of a place that is read or written is the reader of its owner: the key of a tagged mapping is its name's address.
use Rattle.std.specs.Prelude.{◌≡◌, ◌<◌}
use Rattle.kit.specs.Names.{refl, ap, ◌∙◌, true, false, true≢false, List, [], Option, none, some, none_ne_some, ℕ, get_or}
use Rattle.definitions.specs.ContractFile.{Name, final_name, FieldOwner, to_everyone, to_key, to_final, Expression, field, entry, assign_field, assign_entry, Field, Scope, field_at, is_mapping}
use Rattle.definitions.specs.Owners.{Links, place_owner, name_of, owner_of}
use Rattle.definitions.specs.Numbers.{expression_faults, statement_faults, is_tagged, is_none}
use Rattle.definitions.specs.Original.{place_count, position, anyone, only, reader_of, place_reader, value}
use Rattle.theory_relations.specs.Environment.{Environment}
use Rattle.theory_relations.specs.Acceptance.{FieldsFit, constants_fit, constants_fit_in}
use Rattle.theory_relations.specs.Standing.{readers_of}
use Rattle.theory_typing.proofs.Basics.{contradiction}
use Rattle.theory_typing.proofs.Places.{at_place, first_place, plain_not_mapping}
use Rattle.theory_typing.proofs.Faults.{EntryFits, field_read_fits, entry_read_fits, assign_field_fits, assign_entry_fits}
use Rattle.theory_typing.proofs.Values.{name_address, entry_key_in_range, assigned_key_in_range}

-- A declared owner's reader is that of the owner of the place, where a tag has a name, and the key is the name's address.
pub place_owner_reader : (address_of : Name → ℕ) (owner : FieldOwner) (key : ℕ) (name : Option Name) → (is_tagged owner ≡ true → is_none name ≡ false)
    → ((n : Name) → name ≡ some n → key ≡ address_of n) → place_reader (λ g. address_of (final_name g)) owner key ≡ reader_of address_of (place_owner owner name)
place_owner_reader address_of to_everyone key name tagged named = refl
place_owner_reader address_of to_key key none tagged named = absurd (true≢false (tagged refl))
place_owner_reader address_of to_key key (some n) tagged named = ap only (named n refl)
place_owner_reader address_of (to_final g) key name tagged named = refl

pub reader_at_law : (address_of : Name → ℕ) (fields : List Field) (f key : ℕ) → key < place_count (field_at fields f)
    → get_or (readers_of address_of fields) (position fields f key) anyone ≡ place_reader (λ g. address_of (final_name g)) (field_at fields f).owner key
reader_at_law address_of fields f key h = at_place (λ d key. place_reader (λ g. address_of (final_name g)) d.owner key) fields f key h

-- Of a field that is no mapping. It has no tag.
pub single_reader : (address_of : Name → ℕ) (fields : List Field) (f : ℕ) → FieldsFit fields → is_mapping (field_at fields f).shape ≡ false
    → get_or (readers_of address_of fields) (position fields f 0) anyone ≡ reader_of address_of (place_owner (field_at fields f).owner none)
single_reader address_of fields f fit single =
    reader_at_law address_of fields f 0 (first_place (field_at fields f))
    ∙ place_owner_reader address_of (field_at fields f).owner 0 none (λ t. contradiction (is_mapping (field_at fields f).shape) (fit.tagged f t) single)
    (λ n e. absurd (none_ne_some n e))

module _ (scope : Scope) (address_of : Name → ℕ) where
  pub field_reader : FieldsFit scope.fields → (linked : Links) (f : ℕ) → expression_faults scope linked (field f) ≡ []
      → get_or (readers_of address_of scope.fields) (position scope.fields f 0) anyone ≡ reader_of address_of (owner_of scope (field f))
  unfolding owner_of
  field_reader fit linked f h = single_reader address_of scope.fields f fit (field_read_fits scope linked f h).single

  pub assigned_field_reader : FieldsFit scope.fields → (linked : Links) (f : ℕ) (e : Expression) → statement_faults scope linked (assign_field f e) ≡ []
      → get_or (readers_of address_of scope.fields) (position scope.fields f 0) anyone
      ≡ reader_of address_of (place_owner (field_at scope.fields f).owner none)
  assigned_field_reader fit linked f e h =
      single_reader address_of scope.fields f fit (plain_not_mapping (field_at scope.fields f).shape (assign_field_fits scope linked f e h).shape)

  module _ (values numbers : List ℕ) where
    -- Of a mapping's entry at a key that fits and is in range.
    pub mapping_reader : Environment scope address_of values numbers → (f : ℕ) (key : Expression) → EntryFits scope f key
        → value scope.fields address_of values numbers key < place_count (field_at scope.fields f)
        → get_or (readers_of address_of scope.fields) (position scope.fields f (value scope.fields address_of values numbers key)) anyone
        ≡ reader_of address_of (place_owner (field_at scope.fields f).owner (name_of scope key))
    mapping_reader env f key fits below =
        reader_at_law address_of scope.fields f (value scope.fields address_of values numbers key) below
        ∙ place_owner_reader address_of (field_at scope.fields f).owner (value scope.fields address_of values numbers key) (name_of scope key) fits.named
        (name_address scope address_of values numbers env key)

    pub entry_reader : Environment scope address_of values numbers → (linked : Links) (f : ℕ) (key : Expression)
        → expression_faults scope linked (entry f key) ≡ [] → constants_fit (entry f key) ≡ true
        → get_or (readers_of address_of scope.fields) (position scope.fields f (value scope.fields address_of values numbers key)) anyone
        ≡ reader_of address_of (owner_of scope (entry f key))
    unfolding owner_of
    entry_reader env linked f key h c =
        mapping_reader env f key (entry_read_fits scope linked f key h).fits (entry_key_in_range scope address_of values numbers env linked f key h c)

    pub assigned_entry_reader : Environment scope address_of values numbers → (linked : Links) (f : ℕ) (key e : Expression)
        → statement_faults scope linked (assign_entry f key e) ≡ [] → constants_fit_in (assign_entry f key e) ≡ true
        → get_or (readers_of address_of scope.fields) (position scope.fields f (value scope.fields address_of values numbers key)) anyone
        ≡ reader_of address_of (place_owner (field_at scope.fields f).owner (name_of scope key))
    assigned_entry_reader env linked f key e h c =
        mapping_reader env f key (assign_entry_fits scope linked f key e h).fits (assigned_key_in_range scope address_of values numbers env linked f key e h c)
