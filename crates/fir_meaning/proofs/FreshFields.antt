-- Types in which no bundle has two fields of one name.
use Rattle.std.proofs.Common.{◌≡◌, ℕ, List, [], ◌∷◌, ◌++◌, ⊎_elim, inl, refl}
use Rattle.fir_base.specs.Lists.{In}
use Rattle.fir_ast.specs.Types.{DataType, bundle, vector, Fields, no_fields, field}
use Rattle.fir_ast.specs.Statements.{PlacedName}
use Rattle.fir_meaning.specs.Components.{find_name}
use Rattle.fir_meaning.specs.Mentions.{declares, placed_name, type_mentions, field_mentions}
use Rattle.fir_meaning.specs.NameGroups.{faults_in, mention_faults}
use Rattle.fir_base.proofs.Empty.{empty_left, empty_right}
use Rattle.fir_base.proofs.Members.{in_left, in_right, in_map}
use Rattle.fir_meaning.proofs.FoundDeclarations.{unfound}
use Rattle.fir_meaning.proofs.OnceDeclared.{clear_left, clear_right, not_second}

abbrev pub field_names : Fields → List (List ℕ)
field_names no_fields = []
field_names (field p flip x begins t rest) = x ∷ field_names rest

abbrev mutual
  pub HasFreshFields : DataType → Type 0
  HasFreshFields (bundle fs) = AreFresh fs
  HasFreshFields (vector t n) = HasFreshFields t
  HasFreshFields t = Unit {0}

  pub AreFresh : Fields → Type 0
  AreFresh no_fields = Unit {0}
  AreFresh (field p flip x begins t rest) = (In (field_names rest) x → ⊥) × HasFreshFields t × AreFresh rest

-- none of the fields has an earlier name
record FreshBehind (before : List PlacedName) (fs : Fields) : Type 0 where
  new : (n : PlacedName) → In before n → In (field_names fs) n.name → ⊥
  fresh : AreFresh fs

mutual
  pub fresh_fields : (t : DataType) → faults_in (type_mentions t) ≡ [] → HasFreshFields t
  fresh_fields (bundle fs) h = (fresh_behind [] fs h).fresh
  fresh_fields (vector t n) h = fresh_fields t h
  fresh_fields t h = tt

  fresh_behind : (before : List PlacedName) (fs : Fields) → faults_in (field_mentions before fs) ≡ [] → FreshBehind before fs
  fresh_behind before no_fields h = record { new = λ n m i. i; fresh = tt }
  fresh_behind before (field p flip x begins t rest) h =
      let this = placed_name p x in
      let later = field_mentions (before ++ this ∷ []) rest in
      let here = not_second (find_name before x) this (empty_left (mention_faults (declares before this)) (faults_in (type_mentions t ++ later)) h) in
      let behind = empty_right (mention_faults (declares before this)) (faults_in (type_mentions t ++ later)) h in
      let more = fresh_behind (before ++ this ∷ []) rest (clear_right (type_mentions t) later behind) in
      record {
        new = λ n m i.
            ⊎_elim
            (λ (e : x ≡ n.name). unfound before x here (rw e (in_map (λ (y : PlacedName). y.name) before n m)))
            (λ (o : In (field_names rest) n.name). more.new n (in_left before (this ∷ []) n m) o)
            i;
        fresh = (λ i. more.new this (in_right before (this ∷ []) this (inl refl)) i, fresh_fields t (clear_left (type_mentions t) later behind), more.fresh);
      }
