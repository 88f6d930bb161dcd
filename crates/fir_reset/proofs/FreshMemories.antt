-- The type of a memory has fresh fields, where the names of its ports are distinct and its data has fresh fields.
use Rattle.std.proofs.Common.{◌≡◌, ℕ, List, [], ◌∷◌, ◌++◌, map, flat_map, Bool, true, false, if◌then◌else◌, Option, Some, None, refl, inl, inr, ⊎_elim, ap, sym, subst, append_assoc}
use Rattle.std.specs.Prelude.{codes}
use Rattle.std.specs.Str.{bytes_eq}
use Rattle.std.proofs.lemmas.Option.{same_Some, none-some}
use Rattle.std.proofs.lemmas.List.{append-nil}
use Rattle.fir_base.specs.Lists.{In}
use Rattle.fir_base.proofs.Empty.{empty_left, empty_right}
use Rattle.fir_base.proofs.Members.{in_left, in_right, in_map}
use Rattle.fir_base.proofs.SameNames.{name_apart}
use Rattle.fir_ast.specs.declared.place.Place.{Place}
use Rattle.fir_ast.specs.Types.{DataType, uint, sint, clock, reset, async_reset, bundle, vector, Fields, no_fields, field}
use Rattle.fir_ast.specs.Statements.{PlacedName, MemoryPart, data_type, reader, writer, readwriter}
use Rattle.fir_ast.specs.View.{fields_of}
use Rattle.fir_meaning.specs.Components.{find_name}
use Rattle.fir_meaning.specs.Mentions.{declares, port_mentions, ports_of, data_mentions, memory_mentions}
use Rattle.fir_meaning.specs.NameGroups.{faults_in, mention_faults}
use Rattle.fir_meaning.specs.Checked.{joined}
use Rattle.fir_meaning.specs.MemoryTypes.{mask_type, mask_fields, bit, reader_type, writer_type, readwriter_type, flipped_fields, port_fields_of, data_of_part, depth_of_part, first_one, memory_bundle, memory_type}
use Rattle.fir_meaning.proofs.FoundDeclarations.{unfound}
use Rattle.fir_meaning.proofs.FreshFields.{field_names, HasFreshFields, AreFresh, fresh_fields}
use Rattle.fir_meaning.proofs.OnceDeclared.{clear_left, clear_right, not_second}
use Rattle.fir_reset.proofs.FreshTypes.{FreshWhere}

mutual
  mask_fresh : (t : DataType) → HasFreshFields t → HasFreshFields (mask_type t)
  mask_fresh (uint w) h = tt
  mask_fresh (sint w) h = tt
  mask_fresh clock h = tt
  mask_fresh reset h = tt
  mask_fresh async_reset h = tt
  mask_fresh (bundle fs) h = mask_fields_fresh fs h
  mask_fresh (vector t n) h = mask_fresh t h

  mask_fields_fresh : (fs : Fields) → AreFresh fs → AreFresh (mask_fields fs)
  mask_fields_fresh no_fields h = tt
  mask_fields_fresh (field p flip x b t rest) h = (λ i. h.0 (subst (λ ns. In ns x) (mask_names rest) i), mask_fresh t h.1, mask_fields_fresh rest h.2)

  mask_names : (fs : Fields) → field_names (mask_fields fs) ≡ field_names fs
  mask_names no_fields = refl
  mask_names (field p flip x b t rest) = ap (λ ns. x ∷ ns) (mask_names rest)

-- a name that a test finds unlike each of others
abbrev is_among : List (List ℕ) → List ℕ → Bool
is_among [] x = false
is_among (y ∷ ys) x = if bytes_eq y x then true else is_among ys x

not_among : (ys : List (List ℕ)) (x : List ℕ) → is_among ys x ≡ false → In ys x → ⊥
not_among [] x h m = m
not_among (y ∷ ys) x h m = by (bytes_eq y x) refl h (not_among ys x) m
  where
    by : (b : Bool) → bytes_eq y x ≡ b → (if b then true else is_among ys x) ≡ false → (is_among ys x ≡ false → In ys x → ⊥) → In (y ∷ ys) x → ⊥
    by true e h rest m = let n : true ≡ false = h in cc
    by false e h rest (inl same) = name_apart y x e same
    by false e h rest (inr m) = rest h m

reader_fresh : (p : Place) (t : DataType) (words : ℕ) → HasFreshFields t → HasFreshFields (reader_type p t words)
reader_fresh p t words h = (
  not_among (codes "en" ∷ codes "clk" ∷ codes "data" ∷ []) (codes "addr") refl,
  tt,
  (
    not_among (codes "clk" ∷ codes "data" ∷ []) (codes "en") refl,
    tt,
    (
      not_among (codes "data" ∷ []) (codes "clk") refl,
      tt,
      (not_among [] (codes "data") refl, h, tt),
    ),
  ),
)

writer_fresh : (p : Place) (t : DataType) (words : ℕ) → HasFreshFields t → HasFreshFields (writer_type p t words)
writer_fresh p t words h = (
  not_among (codes "en" ∷ codes "clk" ∷ codes "data" ∷ codes "mask" ∷ []) (codes "addr") refl,
  tt,
  (
    not_among (codes "clk" ∷ codes "data" ∷ codes "mask" ∷ []) (codes "en") refl,
    tt,
    (
      not_among (codes "data" ∷ codes "mask" ∷ []) (codes "clk") refl,
      tt,
      (
        not_among (codes "mask" ∷ []) (codes "data") refl,
        h,
        (not_among [] (codes "mask") refl, mask_fresh t h, tt),
      ),
    ),
  ),
)

readwriter_fresh : (p : Place) (t : DataType) (words : ℕ) → HasFreshFields t → HasFreshFields (readwriter_type p t words)
readwriter_fresh p t words h = (
  not_among (codes "en" ∷ codes "clk" ∷ codes "rdata" ∷ codes "wmode" ∷ codes "wdata" ∷ codes "wmask" ∷ []) (codes "addr") refl,
  tt,
  (
    not_among (codes "clk" ∷ codes "rdata" ∷ codes "wmode" ∷ codes "wdata" ∷ codes "wmask" ∷ []) (codes "en") refl,
    tt,
    (
      not_among (codes "rdata" ∷ codes "wmode" ∷ codes "wdata" ∷ codes "wmask" ∷ []) (codes "clk") refl,
      tt,
      (
        not_among (codes "wmode" ∷ codes "wdata" ∷ codes "wmask" ∷ []) (codes "rdata") refl,
        h,
        (
          not_among (codes "wdata" ∷ codes "wmask" ∷ []) (codes "wmode") refl,
          tt,
          (
            not_among (codes "wmask" ∷ []) (codes "wdata") refl,
            h,
            (not_among [] (codes "wmask") refl, mask_fresh t h, tt),
          ),
        ),
      ),
    ),
  ),
)

-- fields that are fresh, and of which none has an earlier name
record Behind (before : List PlacedName) (fs : Fields) : Type 0 where
  new : (n : PlacedName) → In before n → In (field_names fs) n.name → ⊥
  fresh : AreFresh fs

ports_behind : (t : DataType) → HasFreshFields t → (before ns : List PlacedName) (more : List (Fields → Fields)) → faults_in (port_mentions before ns) ≡ []
    → Behind (before ++ ns) (fields_of more) → Behind before (fields_of (flipped_fields t ns ++ more))
ports_behind t h before [] more clear b = subst (λ ns. Behind ns (fields_of more)) (append-nil before) b
ports_behind t h before (n ∷ ns) more clear b =
    let here = not_second (find_name before n.name) n (empty_left (mention_faults (declares before n)) (faults_in (port_mentions (before ++ n ∷ []) ns)) clear) in
    let later = empty_right (mention_faults (declares before n)) (faults_in (port_mentions (before ++ n ∷ []) ns)) clear in
    let rest = ports_behind t h (before ++ n ∷ []) ns more later (subst (λ ms. Behind ms (fields_of more)) (sym (append_assoc before (n ∷ []) ns)) b) in
    record {
      new = λ m i. ⊎_elim (λ (e : n.name ≡ m.name). unfound before n.name here (subst (In (map (λ (y : PlacedName). y.name) before)) (sym e) (in_map (λ (y : PlacedName). y.name) before m i)))
          (λ (o : In (field_names (fields_of (flipped_fields t ns ++ more))) m.name). rest.new m (in_left before (n ∷ []) m i) o);
      fresh = (λ i. rest.new n (in_right before (n ∷ []) n (inl refl)) i, h, rest.fresh);
    }

module _ (p : Place) (t : DataType) (words : ℕ) (h : HasFreshFields t) where
  parts_behind : (before : List PlacedName) (parts : List MemoryPart) → faults_in (memory_mentions before parts) ≡ []
      → Behind before (fields_of (flat_map (port_fields_of p t words) parts))
  parts_behind before [] clear = record { new = λ n m i. i; fresh = tt }
  parts_behind before (m ∷ ms) clear =
      let later = memory_mentions (before ++ ports_of m) ms in
      let here = data_mentions m ++ port_mentions before (ports_of m) in
      of_part m (clear_right (data_mentions m) (port_mentions before (ports_of m)) (clear_left here later clear))
      (parts_behind (before ++ ports_of m) ms (clear_right here later clear))
    where
      of_part : (m : MemoryPart) → faults_in (port_mentions before (ports_of m)) ≡ [] → Behind (before ++ ports_of m) (fields_of (flat_map (port_fields_of p t words) ms))
          → Behind before (fields_of (flat_map (port_fields_of p t words) (m ∷ ms)))
      of_part (reader q ns) c b = ports_behind (reader_type p t words) (reader_fresh p t words h) before ns (flat_map (port_fields_of p t words) ms) c b
      of_part (writer q ns) c b = ports_behind (writer_type p t words) (writer_fresh p t words h) before ns (flat_map (port_fields_of p t words) ms) c b
      of_part (readwriter q ns) c b = ports_behind (readwriter_type p t words) (readwriter_fresh p t words h) before ns (flat_map (port_fields_of p t words) ms) c b
      of_part m c b = ports_behind bit tt before [] (flat_map (port_fields_of p t words) ms) refl b

data_fresh : (before : List PlacedName) (parts : List MemoryPart) (t : DataType) → faults_in (memory_mentions before parts) ≡ []
    → first_one (flat_map data_of_part parts) ≡ Some t → HasFreshFields t
data_fresh before [] t clear e = absurd (none-some t e)
data_fresh before (m ∷ ms) t clear e =
    let later = memory_mentions (before ++ ports_of m) ms in
    let here = data_mentions m ++ port_mentions before (ports_of m) in
    of_part m (clear_left (data_mentions m) (port_mentions before (ports_of m)) (clear_left here later clear))
    (data_fresh (before ++ ports_of m) ms t (clear_right here later clear)) e
  where
    of_part : (m : MemoryPart) → faults_in (data_mentions m) ≡ [] → (first_one (flat_map data_of_part ms) ≡ Some t → HasFreshFields t)
        → first_one (flat_map data_of_part (m ∷ ms)) ≡ Some t → HasFreshFields t
    of_part (data_type q b u) c rest e = subst HasFreshFields (same_Some u t e) (fresh_fields u c)
    of_part m c rest e = rest e

pub memory_fresh : (p : Place) (parts : List MemoryPart) → faults_in (memory_mentions [] parts) ≡ [] → FreshWhere (memory_type p parts)
memory_fresh p parts clear = by (first_one (flat_map data_of_part parts)) (first_one (flat_map depth_of_part parts)) (λ t e. data_fresh [] parts t clear e)
  where
    by : (o : Option DataType) (n : Option ℕ) → ((t : DataType) → o ≡ Some t → HasFreshFields t) → FreshWhere (joined (memory_bundle p parts) o n)
    by None n k = tt
    by (Some t) None k = tt
    by (Some t) (Some words) k = (parts_behind p t words (k t refl) [] parts clear).fresh
