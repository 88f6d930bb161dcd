-- Leaves that are pushed one after another: how far a walk has come, and the leaves of a type.
use Rattle.std.proofs.Common.{◌≡◌, ℕ, ◌+◌, ◌<◌, ◌≤◌, List, [], ◌++◌, length, map, Bool, true, false, if◌then◌else◌, Option, refl, sym, ap, ◌∙◌, subst, append_assoc, append-nil, drop, get_or, arith}
use Rattle.std.specs.Prelude.{◌==◌}
use Rattle.std.proofs.lemmas.List.{length-append, drop_all, drop_more}
use Rattle.fir_ast.specs.declared.place.Place.{Place}
use Rattle.fir_ast.specs.Types.{DataType, uint, sint, clock, reset, async_reset, bundle, vector, Fields, no_fields, field}
use Rattle.fir_meaning.specs.TypeKinds.{bare}
use Rattle.fir_meaning.specs.SharedLeaves.{shared_count, shared_field_count}
use Rattle.fir_meaning.specs.WidthExpressions.{Width, Rule}
use Rattle.fir_meaning.specs.SizedTypes.{past, numbered_fields}
use Rattle.fir_meaning.specs.working.InferredTypes.{inferred, inferred_fields}
use Rattle.fir_names.specs.declared.declaration.Component.{Component}
use Rattle.fir_type_table.specs.working.Tables.{shown, shown_fields}
use Rattle.fir_types.specs.declared.found.Found.{Found}
use Rattle.fir_types.specs.working.Seen.{seen}
use Rattle.fir_width.proofs.FlatShapes.{flat_long}
use Rattle.fir_infer_widths.specs.declared.arena.Arena.{Arena}
use Rattle.fir_infer_widths.specs.declared.declared.Stage.{Stage}
use Rattle.fir_infer_widths.specs.declared.leaves.Unknowns.{Unknowns}
use Rattle.fir_infer_widths.specs.declared.leaves.Unknowns.TheVariants as unknowns
use Rattle.fir_width.specs.working.FlatWidths.{flat_fields}
use Rattle.fir_infer_widths.specs.working.Numbered.{Keeps}
use Rattle.fir_infer_widths.specs.working.PushedLeaves.{Pushes, field_widths, numbers_from, open_fields, open_type, stage_widths, type_widths, walked_widths}

-- a type whose widths are found anew has as many leaves
mutual
  inferred_shared_count : (t : DataType) → shared_count (inferred t) ≡ shared_count t
  inferred_shared_count (uint w) = refl
  inferred_shared_count (sint w) = refl
  inferred_shared_count clock = refl
  inferred_shared_count reset = refl
  inferred_shared_count async_reset = refl
  inferred_shared_count (bundle fs) = inferred_shared_field_count fs
  inferred_shared_count (vector t n) = by (n == 0) (inferred_shared_count t)
    where
      by : (b : Bool) → shared_count (inferred t) ≡ shared_count t → shared_count (if b then t else inferred t) ≡ shared_count t
      by true inside = refl
      by false inside = inside

  inferred_shared_field_count : (fs : Fields) → shared_field_count (inferred_fields fs) ≡ shared_field_count fs
  inferred_shared_field_count no_fields = refl
  inferred_shared_field_count (field p flip x begins t rest) = rw (inferred_shared_count t, inferred_shared_field_count rest) refl

open_shared_count : (u : Unknowns) (t : DataType) → shared_count (open_type u t) ≡ shared_count t
open_shared_count unknowns.Nowhere t = refl
open_shared_count unknowns.Unwritten t = refl
open_shared_count unknowns.Everywhere t = inferred_shared_count t

pub widths_long : (u : Unknowns) (t : DataType) (k : ℕ) → length (type_widths u t k) ≡ shared_count t
widths_long u t k = flat_long (numbers_from u k) (open_type u t) ∙ open_shared_count u t

numbers_past : (u : Unknowns) (k n : ℕ) → past n (numbers_from u k) ≡ numbers_from u (k + n)
numbers_past unknowns.Nowhere k n = refl
numbers_past unknowns.Unwritten k n = refl
numbers_past unknowns.Everywhere k n = refl

-- field by field
open_next : (u : Unknowns) (p : Place) (flip : Bool) (x : List ℕ) (begins : Place) (t : DataType) (rest : Fields)
    → open_fields u (field p flip x begins t rest) ≡ field p flip x begins (open_type u t) (open_fields u rest)
open_next unknowns.Nowhere p flip x begins t rest = refl
open_next unknowns.Unwritten p flip x begins t rest = refl
open_next unknowns.Everywhere p flip x begins t rest = refl

pub fields_next : (u : Unknowns) (k : ℕ) (p : Place) (flip : Bool) (x : List ℕ) (begins : Place) (t : DataType) (rest : Fields)
    → field_widths u (field p flip x begins t rest) k ≡ type_widths u t k ++ field_widths u rest (k + length (type_widths u t k))
fields_next u k p flip x begins t rest =
    let opened = open_type u t in
    let others = open_fields u rest in
    ap (λ fs. flat_fields (numbered_fields (numbers_from u k) fs)) (open_next u p flip x begins t rest)
    ∙ ap (λ at. type_widths u t k ++ flat_fields (numbered_fields at others)) (numbers_past u k (shared_count opened))
    ∙ ap (λ n. type_widths u t k ++ field_widths u rest (k + n)) (sym (flat_long (numbers_from u k) opened))

pub shown_next : (u : Unknowns) (is_bare : Bool) (k : ℕ) (p : Place) (flip : Bool) (x : List ℕ) (begins : Place) (t : DataType) (rest : Fields)
    → field_widths u (shown_fields is_bare (field p flip x begins t rest)) k
    ≡ type_widths u (shown is_bare t) k ++ field_widths u (shown_fields is_bare rest) (k + length (type_widths u (shown is_bare t) k))
shown_next u true k p flip x begins t rest = fields_next u k p flip x begins (bare t) (shown_fields true rest)
shown_next u false k p flip x begins t rest = fields_next u k p flip x begins t rest

pub shown_none : (u : Unknowns) (is_bare : Bool) (k : ℕ) → field_widths u (shown_fields is_bare no_fields) k ≡ []
shown_none unknowns.Nowhere true k = refl
shown_none unknowns.Nowhere false k = refl
shown_none unknowns.Unwritten true k = refl
shown_none unknowns.Unwritten false k = refl
shown_none unknowns.Everywhere true k = refl
shown_none unknowns.Everywhere false k = refl

-- how far a walk has come: what is left stands behind what is pushed
pub record PushesSoFar (whole rest : ℕ → List Width) (old new : Arena) : Type 0 where
  pub each : (meant : List Width) (rules : List Rule) → Keeps meant rules old
      → (done : List Width) × Keeps (meant ++ done) rules new × (done ++ rest (length meant + length done) ≡ whole (length meant))

pub pushes_begin : (whole : ℕ → List Width) (old : Arena) → PushesSoFar whole whole old old
pushes_begin whole old = record {
  each = λ meant rules keeps. (
    [],
    subst (λ ws. Keeps ws rules old) (sym (append-nil meant)) keeps,
    ap whole (let e : length meant + 0 ≡ length meant = omega arith in e),
  );
}

pub pushes_next : (whole rest own behind : ℕ → List Width) (old middle new : Arena) → PushesSoFar whole rest old middle → Pushes own middle new
    → ((k : ℕ) → rest k ≡ own k ++ behind (k + length (own k))) → PushesSoFar whole behind old new
pushes_next whole rest own behind old middle new so_far pushes split = record {
  each = λ meant rules keeps.
      let before = so_far.each meant rules keeps in
      let done = before.0 in
      let k = length meant + length done in
      let pushed = pushes.each (meant ++ done) rules before.1 in
      let counted : length (meant ++ done) ≡ k = length-append meant done in
      let here : (meant ++ done) ++ own (length (meant ++ done)) ≡ meant ++ (done ++ own k) =
      ap (λ n. (meant ++ done) ++ own n) counted ∙ append_assoc meant done (own k) in
      let further : length meant + length (done ++ own k) ≡ k + length (own k) =
      let both = length-append done (own k) in omega (arith, both) in (
        done ++ own k,
        subst (λ ws. Keeps ws rules new) here pushed,
        append_assoc done (own k) (behind (length meant + length (done ++ own k)))
            ∙ ap (λ n. done ++ (own k ++ behind n)) further ∙ ap (λ ws. done ++ ws) (sym (split k)) ∙ before.2,
      );
}

pub pushes_end : (whole rest : ℕ → List Width) (old new : Arena) → PushesSoFar whole rest old new → ((k : ℕ) → rest k ≡ []) → Pushes whole old new
pushes_end whole rest old new so_far none = record {
  each = λ meant rules keeps.
      let all = so_far.each meant rules keeps in
      let same : all.0 ≡ whole (length meant) =
      sym (append-nil all.0) ∙ ap (λ ws. all.0 ++ ws) (sym (none (length meant + length all.0))) ∙ all.2 in
      subst (λ ws. Keeps (meant ++ ws) rules new) same all.1;
}

-- so far in the declarations of a module
abbrev pub all_declared : List DataType → Stage → (ℕ → Option Component) → List (Option Found) → ℕ → List Width
all_declared ts stage at declared = walked_widths stage at 0 (map (seen ts) declared)

abbrev pub declared_left : List DataType → Stage → (ℕ → Option Component) → List (Option Found) → ℕ → ℕ → List Width
declared_left ts stage at declared i = walked_widths stage at i (map (seen ts) (drop i declared))

module _ (ts : List DataType) (stage : Stage) (at : ℕ → Option Component) (declared : List (Option Found)) (old : Arena) where
  pub declared_begin : PushesSoFar (all_declared ts stage at declared) (declared_left ts stage at declared 0) old old
  declared_begin = pushes_begin (all_declared ts stage at declared) old

  pub declared_more : (i : ℕ) (default : Option Found) (middle new : Arena) → i < length declared
      → PushesSoFar (all_declared ts stage at declared) (declared_left ts stage at declared i) old middle
      → Pushes (stage_widths stage (at i) (seen ts (get_or declared i default))) middle new
      → PushesSoFar (all_declared ts stage at declared) (declared_left ts stage at declared (i + 1)) old new
  declared_more i default middle new within so_far pushes =
      pushes_next (all_declared ts stage at declared) (declared_left ts stage at declared i) (stage_widths stage (at i) (seen ts (get_or declared i default)))
      (declared_left ts stage at declared (i + 1)) old middle new so_far pushes
      (λ k. ap (λ fs. walked_widths stage at i (map (seen ts) fs) k) (drop_more declared i default within))

  pub declared_end : (i : ℕ) (new : Arena) → length declared ≤ i → PushesSoFar (all_declared ts stage at declared) (declared_left ts stage at declared i) old new
      → Pushes (all_declared ts stage at declared) old new
  declared_end i new past so_far =
      pushes_end (all_declared ts stage at declared) (declared_left ts stage at declared i) old new so_far
      (λ k. ap (λ fs. walked_widths stage at i (map (seen ts) fs) k) (drop_all i declared past))
