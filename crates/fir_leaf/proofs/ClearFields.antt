-- Types in which no bundle has two fields of one name, by what they mention.
-- That of a memory is such, where its data is, and the names of its ports are distinct.
use Rattle.std.proofs.Common.{◌≡◌, ℕ, List, [], ◌∷◌, ◌++◌, flat_map, Bool, true, Option, Some, None, refl, sym, ap, ◌∙◌, subst, append_assoc, inl, inr, ⊎_elim}
use Rattle.std.specs.Prelude.{codes}
use Rattle.std.proofs.lemmas.List.{append-nil}
use Rattle.fir_base.specs.Lists.{In}
use Rattle.fir_base.proofs.Empty.{empty_left, empty_right}
use Rattle.fir_base.proofs.Members.{in_either}
use Rattle.fir_base.proofs.SameNames.{name_other}
use Rattle.fir_ast.specs.declared.place.Place.{Place}
use Rattle.fir_ast.specs.Types.{DataType, bundle, vector, Fields, no_fields, field}
use Rattle.fir_ast.specs.Statements.{PlacedName, MemoryPart, data_type, reader, writer, readwriter}
use Rattle.fir_ast.specs.View.{fields_of}
use Rattle.fir_meaning.specs.Components.{find_name}
use Rattle.fir_meaning.specs.Checked.{joined}
use Rattle.fir_meaning.specs.MemoryTypes.{mask_type, mask_fields, reader_type, writer_type, readwriter_type, flipped_fields, port_fields_of, data_of_part, depth_of_part, first_one, memory_bundle, memory_type}
use Rattle.fir_meaning.specs.Mentions.{Mention, declares, placed_name, type_mentions, field_mentions, port_mentions, ports_of, data_mentions, memory_mentions}
use Rattle.fir_meaning.specs.NameGroups.{faults_in, mention_faults, second_faults}
use Rattle.fir_meaning.proofs.FreshFields.{field_names, HasFreshFields, AreFresh}
use Rattle.fir_meaning.proofs.OnceDeclared.{faults_joined, clear_left, clear_right}

-- no bundle of the type has two fields of one name, and these fields behind those of some names
abbrev pub IsOnce : DataType → Type 0
IsOnce t = faults_in (type_mentions t) ≡ []

abbrev pub AreOnce : List PlacedName → Fields → Type 0
AreOnce before fs = faults_in (field_mentions before fs) ≡ []

joined_clear : (ms ns : List Mention) → faults_in ms ≡ [] → faults_in ns ≡ [] → faults_in (ms ++ ns) ≡ []
joined_clear ms ns h k = faults_joined ms ns ∙ rw (h, k) refl

-- what is asked of the first of some fields and of those behind it
record OnceFirst (before : List PlacedName) (n : PlacedName) (t : DataType) (rest : Fields) : Type 0 where
  new : mention_faults (declares before n) ≡ []
  own : IsOnce t
  later : AreOnce (before ++ n ∷ []) rest

first_from : (before : List PlacedName) (p : Place) (flip : Bool) (x : List ℕ) (b : Place) (t : DataType) (rest : Fields)
    → AreOnce before (field p flip x b t rest) → OnceFirst before (placed_name p x) t rest
first_from before p flip x b t rest h =
    let own = type_mentions t in
    let later = field_mentions (before ++ placed_name p x ∷ []) rest in
    let inside = empty_right (mention_faults (declares before (placed_name p x))) (faults_in (own ++ later)) h in
    record {
      new = empty_left (mention_faults (declares before (placed_name p x))) (faults_in (own ++ later)) h;
      own = clear_left own later inside;
      later = clear_right own later inside;
    }

first_to : (before : List PlacedName) (p : Place) (flip : Bool) (x : List ℕ) (b : Place) (t : DataType) (rest : Fields) → OnceFirst before (placed_name p x) t rest
    → AreOnce before (field p flip x b t rest)
first_to before p flip x b t rest h = rw (h.new, joined_clear (type_mentions t) (field_mentions (before ++ placed_name p x ∷ []) rest) h.own h.later) refl

-- a type is such where its fields are fresh
not_found : (ns : List PlacedName) (x : List ℕ) → ((n : PlacedName) → In ns n → n.name ≡ x → ⊥) → find_name ns x ≡ None
not_found [] x h = refl
not_found (n ∷ ns) x h = rw (name_other n.name x (h n (inl refl))) (not_found ns x (λ m i. h m (inr i)))

mutual
  pub once_from_fresh : (t : DataType) → HasFreshFields t → IsOnce t
  once_from_fresh (bundle fs) h = fields_from_fresh [] fs (λ n m i. m) h
  once_from_fresh (vector t n) h = once_from_fresh t h
  once_from_fresh t h = refl

  fields_from_fresh : (before : List PlacedName) (fs : Fields) → ((n : PlacedName) → In before n → In (field_names fs) n.name → ⊥) → AreFresh fs
      → AreOnce before fs
  fields_from_fresh before no_fields new h = refl
  fields_from_fresh before (field p flip x b t rest) new h =
      let this = placed_name p x in
      first_to before p flip x b t rest
      (record {
        new = ap (λ o. second_faults o this) (not_found before x (λ n m e. new n m (inl (sym e))));
        own = once_from_fresh t h.1;
        later =
            fields_from_fresh (before ++ this ∷ []) rest
            (λ n m i.
            ⊎_elim
            (λ (o : In before n). new n o (inr i))
            (λ (o : In (this ∷ []) n).
            ⊎_elim (λ (e : this ≡ n). h.0 (subst (λ (y : PlacedName). In (field_names rest) y.name) (sym e) i)) (λ (none : ⊥). none) o)
            (in_either before (this ∷ []) n m))
            h.2;
      })

mutual
  mask_once : (t : DataType) → IsOnce t → IsOnce (mask_type t)
  mask_once (bundle fs) h = mask_fields_once [] fs h
  mask_once (vector t n) h = mask_once t h
  mask_once t h = refl

  mask_fields_once : (before : List PlacedName) (fs : Fields) → AreOnce before fs → AreOnce before (mask_fields fs)
  mask_fields_once before no_fields h = refl
  mask_fields_once before (field p flip x b t rest) h =
      let f = first_from before p flip x b t rest h in
      first_to before p flip x b (mask_type t) (mask_fields rest)
      (record { new = f.new; own = mask_once t f.own; later = mask_fields_once (before ++ placed_name p x ∷ []) rest f.later })

-- the ports of a memory
module _ (p : Place) (t : DataType) (words : ℕ) (h : IsOnce t) where
  reader_once : IsOnce (reader_type p t words)
  reader_once = joined_clear (type_mentions t) [] h refl

  writer_once : IsOnce (writer_type p t words)
  writer_once =
      joined_clear (type_mentions t) (declares _ (placed_name p (codes "mask")) ∷ (type_mentions (mask_type t) ++ [])) h
      (joined_clear (type_mentions (mask_type t)) [] (mask_once t h) refl)

  readwriter_once : IsOnce (readwriter_type p t words)
  readwriter_once =
      joined_clear (type_mentions t)
      (declares _ (placed_name p (codes "wmode"))
      ∷ declares _ (placed_name p (codes "wdata")) ∷ (type_mentions t ++ declares _ (placed_name p (codes "wmask")) ∷ (type_mentions (mask_type t) ++ [])))
      h
      (joined_clear (type_mentions t) (declares _ (placed_name p (codes "wmask")) ∷ (type_mentions (mask_type t) ++ [])) h
      (joined_clear (type_mentions (mask_type t)) [] (mask_once t h) refl))

  -- of some ports, and of fields behind them
  ports_once : (u : DataType) → IsOnce u → (before ns : List PlacedName) (more : List (Fields → Fields)) → faults_in (port_mentions before ns) ≡ []
      → AreOnce (before ++ ns) (fields_of more) → AreOnce before (fields_of (flipped_fields u ns ++ more))
  ports_once u own before [] more clear later = subst (λ ns. AreOnce ns (fields_of more)) (append-nil before) later
  ports_once u own before (n ∷ ns) more clear later =
      let rest = port_mentions (before ++ n ∷ []) ns in
      first_to before n.place true n.name n.place u (fields_of (flipped_fields u ns ++ more))
      (record {
        new = empty_left (mention_faults (declares before n)) (faults_in rest) clear;
        own = own;
        later =
            ports_once u own (before ++ n ∷ []) ns more (empty_right (mention_faults (declares before n)) (faults_in rest) clear)
            (subst (λ ms. AreOnce ms (fields_of more)) (sym (append_assoc before (n ∷ []) ns)) later);
      })

  parts_once : (before : List PlacedName) (parts : List MemoryPart) → faults_in (memory_mentions before parts) ≡ []
      → AreOnce before (fields_of (flat_map (port_fields_of p t words) parts))
  parts_once before [] clear = refl
  parts_once before (m ∷ ms) clear =
      let later = memory_mentions (before ++ ports_of m) ms in
      let ports = port_mentions before (ports_of m) in
      by m (clear_right (data_mentions m) ports (clear_left (data_mentions m ++ ports) later clear))
      (parts_once (before ++ ports_of m) ms (clear_right (data_mentions m ++ ports) later clear))
    where
      more : List (Fields → Fields)
      more = flat_map (port_fields_of p t words) ms

      by : (m : MemoryPart) → faults_in (port_mentions before (ports_of m)) ≡ [] → AreOnce (before ++ ports_of m) (fields_of more)
          → AreOnce before (fields_of (port_fields_of p t words m ++ more))
      by (reader q ns) own later = ports_once (reader_type p t words) reader_once before ns more own later
      by (writer q ns) own later = ports_once (writer_type p t words) writer_once before ns more own later
      by (readwriter q ns) own later = ports_once (readwriter_type p t words) readwriter_once before ns more own later
      by m own later = subst (λ ns. AreOnce ns (fields_of more)) (append-nil before) later

data_once : (before : List PlacedName) (parts : List MemoryPart) (t : DataType) → faults_in (memory_mentions before parts) ≡ []
    → first_one (flat_map data_of_part parts) ≡ Some t → IsOnce t
data_once before [] t clear e = absurd (cc)
data_once before (m ∷ ms) t clear e =
    let later = memory_mentions (before ++ ports_of m) ms in
    let ports = port_mentions before (ports_of m) in
    by m (clear_left (data_mentions m) ports (clear_left (data_mentions m ++ ports) later clear)) e
    (λ o. data_once (before ++ ports_of m) ms t (clear_right (data_mentions m ++ ports) later clear) o)
  where
    by : (m : MemoryPart) → faults_in (data_mentions m) ≡ [] → first_one (data_of_part m ++ flat_map data_of_part ms) ≡ Some t
        → (first_one (flat_map data_of_part ms) ≡ Some t → IsOnce t) → IsOnce t
    by (data_type q b u) own e rest = let same : u ≡ t = cc in subst IsOnce same own
    by m own e rest = rest e

pub memory_once : (p : Place) (parts : List MemoryPart) (t : DataType) → faults_in (memory_mentions [] parts) ≡ [] → memory_type p parts ≡ Some t → IsOnce t
memory_once p parts t clear e = by (first_one (flat_map data_of_part parts)) (first_one (flat_map depth_of_part parts)) (λ u o. data_once [] parts u clear o) e
  where
    by : (word : Option DataType) (depth : Option ℕ) → ((u : DataType) → word ≡ Some u → IsOnce u)
        → joined (memory_bundle p parts) word depth ≡ Some t → IsOnce t
    by None depth own e = absurd (cc)
    by (Some u) None own e = absurd (cc)
    by (Some u) (Some words) own e =
        let same : memory_bundle p parts u words ≡ t = cc in subst IsOnce same (parts_once p u words (own u refl) [] parts clear)
