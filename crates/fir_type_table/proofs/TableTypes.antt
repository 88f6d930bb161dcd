-- The types of a table: each is what its entry says, with one entry more it is one more, and those that are there stay.
use Rattle.std.proofs.Common.{◌≡◌, ℕ, zero, suc, ◌+◌, ◌<◌, ◌≤◌, List, [], ◌∷◌, ◌++◌, length, refl, sym, ap, ◌∙◌, subst, append_assoc, append-nil, length-append, arith}
use Rattle.std.specs.Prelude.{Some, None, unwrap_or, slice_get}
use Rattle.std.specs.List.{All}
use Rattle.std.proofs.lemmas.Option.{slice_get_past}
use Rattle.fir_base.proofs.Elements.{get_left, get_behind}
use Rattle.fir_ast.specs.Types.{DataType, uint, bundle, vector, field}
use Rattle.fir_type_table.specs.declared.kind.Kind.{Kind}
use Rattle.fir_type_table.specs.declared.kind.Kind.TheVariants as kind
use Rattle.fir_type_table.specs.declared.entry.Member.{Member}
use Rattle.fir_type_table.specs.declared.entry.Entry.{Entry}
use Rattle.fir_type_table.specs.working.Tables.{type_at, member_fields, made_of, types_behind, types_of}
use Rattle.fir_type_table.specs.working.Fits.{IsMadeBelow}

pub type_at_left : (ts more : List DataType) (i : ℕ) → i < length ts → type_at (ts ++ more) i ≡ type_at ts i
type_at_left ts more i h = ap (λ o. unwrap_or o (uint None)) (get_left ts more i h)

-- what holds of each holds of the first, and of each of the rest
pub all_first : {A : Type 0} → (P : A → Type 0) (x : A) (xs : List A) → All P (x ∷ xs) → P x
all_first P x xs h = h 0 x (omega arith)

pub all_rest : {A : Type 0} → (P : A → Type 0) (x : A) (xs : List A) → All P (x ∷ xs) → All P xs
all_rest P x xs h = λ k d lt. h (suc k) d (omega arith)

pub fields_grown : (ts more : List DataType) (ms : List Member) → All (λ m. m.ty.number < length ts) ms → member_fields (ts ++ more) ms ≡ member_fields ts ms
fields_grown ts more [] h = refl
fields_grown ts more (m ∷ ms) h =
    let P : Member → Type 0 = λ m. m.ty.number < length ts in
    ap (λ t. field m.place m.flip m.name m.type_place t (member_fields (ts ++ more) ms)) (type_at_left ts more m.ty.number (all_first P m ms h))
    ∙ ap (field m.place m.flip m.name m.type_place (type_at ts m.ty.number)) (fields_grown ts more ms (all_rest P m ms h))

pub made_grown : (ts more : List DataType) (k : Kind) (ms : List Member) → IsMadeBelow (length ts) k → All (λ m. m.ty.number < length ts) ms
    → made_of (ts ++ more) k ms ≡ made_of ts k ms
made_grown ts more (kind.UInt w) ms below h = refl
made_grown ts more (kind.SInt w) ms below h = refl
made_grown ts more kind.Clock ms below h = refl
made_grown ts more kind.Reset ms below h = refl
made_grown ts more kind.AsyncReset ms below h = refl
made_grown ts more kind.Bundle ms below h = ap bundle (fields_grown ts more ms h)
made_grown ts more (kind.Vector e n) ms below h = ap (λ t. vector t n) (type_at_left ts more e.number below)

behind_more : (ts : List DataType) (es : List Entry) (e : Entry)
    → types_behind ts (es ++ e ∷ []) ≡ types_behind ts es ++ made_of (types_behind ts es) e.kind e.members.items ∷ []
behind_more ts [] e = refl
behind_more ts (x ∷ es) e = behind_more (ts ++ made_of ts x.kind x.members.items ∷ []) es e

pub types_more : (es : List Entry) (e : Entry) → types_of (es ++ e ∷ []) ≡ types_of es ++ made_of (types_of es) e.kind e.members.items ∷ []
types_more es e = behind_more [] es e

behind_begins : (ts : List DataType) (es : List Entry) → (more : List DataType) × (types_behind ts es ≡ ts ++ more)
behind_begins ts [] = ([], sym (append-nil ts))
behind_begins ts (x ∷ es) =
    let t = made_of ts x.kind x.members.items in
    let r = behind_begins (ts ++ t ∷ []) es in
    (t ∷ r.0, r.1 ∙ append_assoc ts (t ∷ []) r.0)

length_behind : (ts : List DataType) (es : List Entry) → length (types_behind ts es) ≡ length ts + length es
length_behind ts [] = omega arith
length_behind ts (x ∷ es) =
    let t = made_of ts x.kind x.members.items in
    omega (arith, length_behind (ts ++ t ∷ []) es, length-append ts (t ∷ []))

pub length_types : (es : List Entry) → length (types_of es) ≡ length es
length_types es = omega (arith, length_behind [] es)

behind_at : (ts : List DataType) (es : List Entry) (j : ℕ) (e : Entry) (i : ℕ) → slice_get es j ≡ Some e → i ≡ length ts + j → IsMadeBelow i e.kind
    → All (λ m. m.ty.number < i) e.members.items → slice_get (types_behind ts es) i ≡ Some (made_of (types_behind ts es) e.kind e.members.items)
behind_at ts [] j e i is at below members = absurd (cc)
behind_at ts (x ∷ es) zero e i is at below members =
    let t : DataType = made_of ts x.kind x.members.items in
    let r = behind_begins (ts ++ t ∷ []) es in
    let whole : types_behind ts (x ∷ es) ≡ ts ++ t ∷ r.0 = r.1 ∙ append_assoc ts (t ∷ []) r.0 in
    let here : i ≡ length ts = omega arith in
    let same : x ≡ e = cc in
    let kind_below = subst (λ n. IsMadeBelow n e.kind) here below in
    let members_below = subst (λ n. All (λ (m : Member). m.ty.number < n) e.members.items) here members in
    let made : made_of (ts ++ t ∷ r.0) e.kind e.members.items ≡ t =
    made_grown ts (t ∷ r.0) e.kind e.members.items kind_below members_below ∙ ap (λ (y : Entry). made_of ts y.kind y.members.items) (sym same) in
    ap (λ l. slice_get l i) whole ∙ ap (slice_get (ts ++ t ∷ r.0)) here ∙ get_behind ts r.0 t ∙ ap Some (sym made)
    ∙ ap (λ l. Some (made_of l e.kind e.members.items)) (sym whole)
behind_at ts (x ∷ es) (suc j) e i is at below members =
    let t : DataType = made_of ts x.kind x.members.items in
    behind_at (ts ++ t ∷ []) es j e i is (omega (arith, length-append ts (t ∷ []))) below members

pub type_held : (es : List Entry) (i : ℕ) (e : Entry) → slice_get es i ≡ Some e → IsMadeBelow i e.kind → All (λ m. m.ty.number < i) e.members.items
    → slice_get (types_of es) i ≡ Some (made_of (types_of es) e.kind e.members.items)
type_held es i e is below members = behind_at [] es i e i is (omega arith) below members

pub type_past : (es : List Entry) (i : ℕ) → length es ≤ i → type_at (types_of es) i ≡ uint None
type_past es i h = ap (λ o. unwrap_or o (uint None)) (slice_get_past (types_of es) i (omega (arith, length_types es)))
