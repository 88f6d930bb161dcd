-- The members of a bundle one by one, as its fields.
use Rattle.std.proofs.Common.{◌≡◌, ℕ, suc, ◌+◌, ◌<◌, ◌≤◌, List, [], ◌∷◌, Bool, true, false, ◌&&◌, drop, get_or, length, refl, sym, ap, ◌∙◌}
use Rattle.std.proofs.lemmas.List.{drop_more, drop_all}
use Rattle.fir_ast.specs.Types.{DataType, Fields, no_fields}
use Rattle.fir_type_table.specs.declared.entry.Member.{Member}
use Rattle.std.specs.Bool.{beq}
use Rattle.std.specs.Str.{bytes_eq}
use Rattle.fir_meaning.specs.Equivalence.{alike, fields_alike}
use Rattle.fir_type_table.specs.working.Tables.{type_at, member_of, member_fields}

-- the fields from number i on
abbrev pub members_from : List DataType → List Member → ℕ → Fields
members_from ts ms i = member_fields ts (drop i ms)

pub members_next : (ts : List DataType) (ms : List Member) (i : ℕ) (m : Member) → i < length ms → m ≡ get_or ms i m
    → members_from ts ms i ≡ member_of ts m (members_from ts ms (i + 1))
members_next ts ms i m h e = ap (member_fields ts) (drop_more ms i m h) ∙ ap (λ x. member_of ts x (members_from ts ms (i + 1))) (sym e)

pub members_end : (ts : List DataType) (ms : List Member) (i : ℕ) → length ms ≤ i → members_from ts ms i ≡ no_fields
members_end ts ms i h = ap (member_fields ts) (drop_all i ms h)

and_false : (a : Bool) → (a && false) ≡ false
and_false true = refl
and_false false = refl

-- bundles of another number of fields are not alike
pub other_length : (test : DataType → DataType → Bool) (ts : List DataType) (fs gs : List Member) → (length fs ≡ length gs → ⊥)
    → fields_alike test (member_fields ts fs) (member_fields ts gs) ≡ false
other_length test ts [] [] h = absurd (h refl)
other_length test ts [] (g ∷ gs) h = refl
other_length test ts (f ∷ fs) [] h = refl
other_length test ts (f ∷ fs) (g ∷ gs) h =
    let b : Bool = beq f.flip g.flip in
    let n : Bool = bytes_eq f.name g.name in
    let t : Bool = alike test (type_at ts f.ty.number) (type_at ts g.ty.number) in
    ap (λ x. b && (n && (t && x))) (other_length test ts fs gs (λ e. h (ap suc e))) ∙ ap (λ x. b && (n && x)) (and_false t) ∙ ap (λ x. b && x) (and_false n)
    ∙ and_false b
