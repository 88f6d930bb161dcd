-- Two sides of a connect of which one is a leaf.
use Rattle.std.proofs.Common.{◌≡◌, ℕ, List, [], ◌++◌, Bool, true, false, Result, OnOk, refl, sym, subst}
use Rattle.std.proofs.lemmas.List.{append-nil}
use Rattle.fir_ast.specs.Types.{DataType, uint, sint, clock, reset, async_reset, bundle, vector}
use Rattle.fir_meaning.specs.TypeKinds.{bare}
use Rattle.fir_meaning.specs.WidthExpressions.{Width, Rule}
use Rattle.fir_meaning.specs.WidthRules.{bound}
use Rattle.fir_meaning.specs.SizedTypes.{Scalar, Sized, scalar, sized_bundle, sized_vector}
use Rattle.fir_meaning.specs.SizedMatches.{matches}
use Rattle.fir_type_table.specs.declared.kind.TypeId.{TypeId}
use Rattle.fir_type_table.specs.declared.kind.Kind.{Kind}
use Rattle.fir_type_table.specs.declared.kind.Kind.TheVariants as kind
use Rattle.fir_type_table.specs.declared.entry.Member.{Member}
use Rattle.fir_type_table.specs.working.Tables.{made_of, shown}
use Rattle.fir_types.specs.declared.found.Found.{Found}
use Rattle.fir_types.specs.declared.found.Found.TheVariants as found
use Rattle.fir_types.specs.declared.sort.Sort.{Sort}
use Rattle.fir_types.specs.declared.sort.Sort.TheVariants as sort
use Rattle.fir_types.specs.working.Seen.{found_type}
use Rattle.fir_types.specs.working.Sorts.{sort_of}
use Rattle.fir_infer_widths.specs.declared.arena.Arena.{Arena}
use Rattle.fir_width.specs.declared.side.Side.{Side}
use Rattle.fir_infer_widths.specs.working.Meetings.{asked_by}
use Rattle.fir_infer_widths.specs.working.Numbered.{Keeps}
use Rattle.fir_width.specs.working.StandingWidths.{Has}
use Rattle.fir_width.specs.working.Sides.{IsSide}
use Rattle.fir_width.proofs.StandingWidths.{stands_head}

-- types that are leaves
abbrev pub IsLeafType : DataType → Type 0
IsLeafType (bundle fs) = ⊥
IsLeafType (vector t n) = ⊥
IsLeafType t = Unit {0}

bare_leaf : (t : DataType) → IsLeafType t → IsLeafType (bare t)
bare_leaf (bundle fs) h = absurd h
bare_leaf (vector t n) h = absurd h
bare_leaf (uint w) h = tt
bare_leaf (sint w) h = tt
bare_leaf clock h = tt
bare_leaf reset h = tt
bare_leaf async_reset h = tt

pub shown_leaf : (is_bare : Bool) (t : DataType) → IsLeafType t → IsLeafType (shown is_bare t)
shown_leaf true t h = bare_leaf t h
shown_leaf false t h = h

pub kind_leaf : (ts : List DataType) (k : Kind) (ms : List Member) → (k ≡ kind.Bundle → ⊥) → ((e : TypeId) (n : ℕ) → k ≡ kind.Vector e n → ⊥)
    → IsLeafType (made_of ts k ms)
kind_leaf ts (kind.UInt w) ms b v = tt
kind_leaf ts (kind.SInt w) ms b v = tt
kind_leaf ts kind.Clock ms b v = tt
kind_leaf ts kind.Reset ms b v = tt
kind_leaf ts kind.AsyncReset ms b v = tt
kind_leaf ts kind.Bundle ms b v = absurd (b refl)
kind_leaf ts (kind.Vector e n) ms b v = absurd (v e n refl)

pub found_leaf : (ts : List DataType) (f : Found) → ((id : TypeId) (is_bare : Bool) → f ≡ found.Type id is_bare → ⊥) → IsLeafType (found_type ts f)
found_leaf ts (found.Number true w) h = tt
found_leaf ts (found.Number false w) h = tt
found_leaf ts found.AsyncReset h = tt
found_leaf ts (found.Type id is_bare) h = absurd (h id is_bare refl)

sort_leaf : (t : DataType) (k : Sort) → k ≡ sort_of t → (k ≡ sort.Bundle → ⊥) → (k ≡ sort.Vector → ⊥) → IsLeafType t
sort_leaf (bundle fs) k e b v = absurd (b e)
sort_leaf (vector t n) k e b v = absurd (v e)
sort_leaf (uint w) k e b v = tt
sort_leaf (sint w) k e b v = tt
sort_leaf clock k e b v = tt
sort_leaf reset k e b v = tt
sort_leaf async_reset k e b v = tt

-- a side that is a leaf
pub record IsLeafSide (meant : List Width) (number : ℕ) (s : Sized) : Type 0 where
  pub kind : Scalar
  pub width : Width
  pub is : s ≡ scalar kind width
  pub has : Has meant number width

pub leaf_side : (ts : List DataType) (meant : List Width) (side : Side) (s : Sized) → IsSide ts meant side s → IsLeafType (found_type ts side.found)
    → IsLeafSide meant side.first s
leaf_side ts meant side (scalar k w) h leaf = record { kind = k; width = w; is = refl; has = stands_head meant side.first w [] h.stands }
leaf_side ts meant side (sized_bundle fs) h leaf = absurd (subst IsLeafType (sym h.shape) (bare_leaf (found_type ts side.found) leaf))
leaf_side ts meant side (sized_vector t n) h leaf = absurd (subst IsLeafType (sym h.shape) (bare_leaf (found_type ts side.found) leaf))

pub sorted_leaf : (ts : List DataType) (meant : List Width) (side : Side) (s : Sized) (k : Sort) → IsSide ts meant side s
    → k ≡ sort_of (found_type ts side.found) → (k ≡ sort.Bundle → ⊥) → (k ≡ sort.Vector → ⊥) → IsLeafSide meant side.first s
sorted_leaf ts meant side s k h e b v = leaf_side ts meant side s h (sort_leaf (found_type ts side.found) k e b v)

-- what two leaves ask for
pub straight_leaves : (turn : Bool) (k l : Scalar) (v w : Width) (t : Sized) → turn ≡ false → t ≡ scalar l w
    → bound v w ≡ asked_by (matches turn (scalar k v) t)
straight_leaves turn k l v w t e f = rw (e, f) (sym (append-nil (bound v w)))

pub turned_leaves : (turn : Bool) (k l : Scalar) (v w : Width) (t : Sized) → turn ≡ true → t ≡ scalar l w → bound w v ≡ asked_by (matches turn (scalar k v) t)
turned_leaves turn k l v w t e f = rw (e, f) (sym (append-nil (bound w v)))

-- an equal list of rules
pub asked_same : {T E : Type 0} (r : Result T E) (meant : List Width) (rules a b : List Rule) (new : Arena) → a ≡ b → OnOk r (Keeps meant (rules ++ a) new)
    → OnOk r (Keeps meant (rules ++ b) new)
asked_same r meant rules a b new e h = subst (λ asked. OnOk r (Keeps meant (rules ++ asked) new)) e h
