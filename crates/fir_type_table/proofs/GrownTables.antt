-- A table with one entry more, and the table that all begin with.
use Rattle.std.proofs.Common.{◌≡◌, ℕ, zero, suc, ◌+◌, ◌<◌, ◌≤◌, List, [], ◌∷◌, ◌++◌, length, take, refl, sym, ap, ◌∙◌, subst, append-nil, arith}
use Rattle.std.specs.Prelude.{Some, slice_get}
use Rattle.std.specs.List.{All}
use Rattle.std.proofs.lemmas.List.{take-append-le, length-take}
use Rattle.fir_base.proofs.Elements.{get_behind}
use Rattle.fir_ast.specs.Types.{DataType}
use Rattle.fir_meaning.specs.TypeLeaves.{leaf_count}
use Rattle.fir_meaning.specs.TypeKinds.{is_passive, is_numeric, is_sized}
use Rattle.fir_meaning.specs.SharedLeaves.{shared_count}
use Rattle.fir_type_table.specs.declared.kind.Kind.{Kind}
use Rattle.fir_type_table.specs.declared.kind.Kind.TheVariants as kind
use Rattle.fir_type_table.specs.declared.entry.Member.{Member}
use Rattle.fir_type_table.specs.declared.entry.Entry.{Entry}
use Rattle.fir_type_table.specs.working.Saturated.{saturated}
use Rattle.fir_type_table.specs.working.Tables.{Adds, type_at, made_of, types_of}
use Rattle.fir_type_table.specs.working.Fits.{FitsAt, HasOffsets, IsMadeBelow, IsScalar, IsTable, grounds}
use Rattle.fir_type_table.proofs.TableTypes.{type_at_left, all_first, all_rest, made_grown, types_more, length_types}

offsets_grown : (ts more : List DataType) (before shared : ℕ) (ms : List Member) → All (λ m. m.ty.number < length ts) ms
    → HasOffsets ts before shared ms → HasOffsets (ts ++ more) before shared ms
offsets_grown ts more before shared [] below h = tt
offsets_grown ts more before shared (m ∷ ms) below h =
    let P : Member → Type 0 = λ x. x.ty.number < length ts in
    let same : type_at ts m.ty.number ≡ type_at (ts ++ more) m.ty.number = sym (type_at_left ts more m.ty.number (all_first P m ms below)) in
    let rest = offsets_grown ts more (before + leaf_count (type_at ts m.ty.number)) (shared + shared_count (type_at ts m.ty.number)) ms (all_rest P m ms below) h.2 in
    (h.0, h.1, subst (λ t. HasOffsets (ts ++ more) (before + leaf_count t) (shared + shared_count t) ms) same rest)

kind_widened : (k : Kind) (i n : ℕ) → i ≤ n → IsMadeBelow i k → IsMadeBelow n k
kind_widened (kind.UInt w) i n le h = tt
kind_widened (kind.SInt w) i n le h = tt
kind_widened kind.Clock i n le h = tt
kind_widened kind.Reset i n le h = tt
kind_widened kind.AsyncReset i n le h = tt
kind_widened kind.Bundle i n le h = tt
kind_widened (kind.Vector e size) i n le h = omega arith

fits_grown : (ts more : List DataType) (i : ℕ) (e : Entry) → i ≤ length ts → FitsAt ts i e → FitsAt (ts ++ more) i e
fits_grown ts more i e le fits =
    let ms : List Member = e.members.items in
    let below : All (λ m. m.ty.number < length ts) ms = λ k d lt. let h = fits.members_below k d lt in omega arith in
    let same : made_of ts e.kind ms ≡ made_of (ts ++ more) e.kind ms = sym (made_grown ts more e.kind ms (kind_widened e.kind i (length ts) le fits.below) below) in
    record {
      below = fits.below;
      members_below = fits.members_below;
      leaves = fits.leaves ∙ ap (λ t. saturated (leaf_count t)) same;
      shared = fits.shared ∙ ap (λ t. saturated (shared_count t)) same;
      passive = fits.passive ∙ ap is_passive same;
      numeric = fits.numeric ∙ ap is_numeric same;
      sized = fits.sized ∙ ap is_sized same;
      offsets = offsets_grown ts more 0 0 ms below fits.offsets;
      by_name = fits.by_name;
    }

-- what holds of each by its number, with one more
each_more : {A : Type 0} → (P : ℕ → A → Type 0) (xs : List A) (y : A) → ((i : ℕ) (x : A) → slice_get xs i ≡ Some x → P i x) → P (length xs) y
    → (i : ℕ) (x : A) → slice_get (xs ++ y ∷ []) i ≡ Some x → P i x
each_more P [] y each last zero x e = let same : y ≡ x = cc in subst (P 0) same last
each_more P [] y each last (suc i) x e = absurd (cc)
each_more P (z ∷ xs) y each last zero x e = each 0 x e
each_more P (z ∷ xs) y each last (suc i) x e = each_more (λ j. P (suc j)) xs y (λ j w h. each (suc j) w h) last i x e

each_fits_more : (es : List Entry) (e : Entry) → ((i : ℕ) (x : Entry) → slice_get es i ≡ Some x → FitsAt (types_of es) i x)
    → FitsAt (types_of es) (length (types_of es)) e → (i : ℕ) (x : Entry) → slice_get (es ++ e ∷ []) i ≡ Some x → FitsAt (types_of (es ++ e ∷ [])) i x
each_fits_more es e each fits i x at =
    let ts : List DataType = types_of es in
    let more : List DataType = made_of ts e.kind e.members.items ∷ [] in
    let grown : (j : ℕ) (w : Entry) → slice_get es j ≡ Some w → FitsAt (ts ++ more) j w =
    λ j w h. fits_grown ts more j w (omega (arith, length_types es, get_within es j w h)) (each j w h) in
    let last : FitsAt (ts ++ more) (length es) e =
    subst (λ n. FitsAt (ts ++ more) n e) (length_types es) (fits_grown ts more (length ts) e (omega arith) fits) in
    subst (λ l. FitsAt l i x) (sym (types_more es e)) (each_more (FitsAt (ts ++ more)) es e grown last i x at) where
      get_within : (xs : List Entry) (k : ℕ) (y : Entry) → slice_get xs k ≡ Some y → k < length xs
      get_within [] k y h = absurd (cc)
      get_within (z ∷ xs) zero y h = omega arith
      get_within (z ∷ xs) (suc k) y h = let rest = get_within xs k y h in omega arith

begins_more : (xs ys : List DataType) → take 6 xs ≡ grounds → take 6 (xs ++ ys) ≡ grounds
begins_more xs ys h = take-append-le 6 xs ys (omega (arith, ap length h, length-take 6 xs)) ∙ h

pub table_more : (es : List Entry) (e : Entry) → IsTable es → FitsAt (types_of es) (length (types_of es)) e → IsTable (es ++ e ∷ [])
table_more es e table fits = record {
  begins = ap (take 6) (types_more es e) ∙ begins_more (types_of es) (made_of (types_of es) e.kind e.members.items ∷ []) table.begins;
  each = each_fits_more es e table.each fits;
}

pub put_adds : (es new : List Entry) (e : Entry) (n : ℕ) → new ≡ es ++ e ∷ [] → n ≡ length es → Adds es new n (made_of (types_of es) e.kind e.members.items)
put_adds es new e n grown counted =
    let ts : List DataType = types_of es in
    let t : DataType = made_of ts e.kind e.members.items in
    let whole : types_of new ≡ ts ++ t ∷ [] = ap types_of grown ∙ types_more es e in
    let last : n ≡ length ts = omega (arith, length_types es) in
    record {
      more = t ∷ [];
      grown = whole;
      held = ap (λ l. slice_get l n) whole ∙ ap (slice_get (ts ++ t ∷ [])) last ∙ get_behind ts [] t;
    }

get_taken : {A : Type 0} → (k : ℕ) (xs : List A) (n : ℕ) (x : A) → slice_get (take k xs) n ≡ Some x → slice_get xs n ≡ Some x
get_taken zero xs n x h = absurd (cc)
get_taken (suc k) [] n x h = absurd (cc)
get_taken (suc k) (y ∷ xs) zero x h = h
get_taken (suc k) (y ∷ xs) (suc n) x h = get_taken k xs n x h

-- a type that each table has
pub held_adds : (es : List Entry) (n : ℕ) (t : DataType) → IsTable es → slice_get grounds n ≡ Some t → Adds es es n t
held_adds es n t table at = record {
  more = [];
  grown = sym (append-nil (types_of es));
  held = get_taken 6 (types_of es) n t (ap (λ l. slice_get l n) table.begins ∙ at);
}

pub scalar_made : (k : Kind) (ts : List DataType) (ms : List Member) → IsScalar k → made_of ts k ms ≡ made_of [] k []
scalar_made (kind.UInt w) ts ms h = refl
scalar_made (kind.SInt w) ts ms h = refl
scalar_made kind.Clock ts ms h = refl
scalar_made kind.Reset ts ms h = refl
scalar_made kind.AsyncReset ts ms h = refl
scalar_made kind.Bundle ts ms h = absurd h
scalar_made (kind.Vector e n) ts ms h = absurd h
