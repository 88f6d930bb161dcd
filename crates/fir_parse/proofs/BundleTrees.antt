-- The fields of a bundle, one after another.
use Rattle.std.proofs.Common.{◌≡◌, ℕ, ◌≤◌, max, arith, rules, List, [], ◌∷◌, ◌++◌, map, refl, sym, ap, ◌∙◌}
use Rattle.std.specs.Ordering.{ord_max, nat_cmp}
use Rattle.std.proofs.lemmas.List.{map-append}
use Rattle.fir_ast.specs.declared.place.Place.{Place}
use Rattle.fir_ast.specs.declared.types.Field.{Field}
use Rattle.fir_ast.specs.Types.{Fields, no_fields, field}
use Rattle.fir_ast.specs.working.BundleText.{field_of}
use Rattle.fir_ast.specs.View.{fields_of}
use Rattle.fir_ast.specs.working.TypeViews.{type_of}
use Rattle.fir_ast.proofs.Fields.{field_of-is}
use Rattle.fir_parse.specs.working.BundlePlans.{some_fields, before}
use Rattle.fir_parse.specs.Heights.{type_height, fields_height}
use Rattle.fir_parse.specs.Lexemes.{Terminal}
use Rattle.fir_parse.specs.working.Reading.{read_on}
use Rattle.fir_parse.specs.working.States.{State}
use Rattle.fir_parse.specs.working.Symbols.{FieldsTree}
use Rattle.fir_parse.specs.working.TypeRules.{with_field}
use Rattle.fir_parse.specs.working.Trees.{onto, field_tree}
use Rattle.fir_parse.specs.Limits.{everywhere}

onto-append : (fs gs : List (Fields → Fields)) (rest : Fields) → onto (fs ++ gs) rest ≡ onto fs (onto gs rest)
onto-append [] gs rest = refl
onto-append (f ∷ fs) gs rest = ap f (onto-append fs gs rest)

fields_onto : (fs : List (Fields → Fields)) → fields_of fs ≡ onto fs no_fields
fields_onto [] = refl
fields_onto (f ∷ fs) = ap f (fields_onto fs)

-- one field more stands last of those before
last_before : (xs : List Field) (f : Field) (rest : Fields) → onto (map field_of (xs ++ (f ∷ []))) rest ≡ onto (map field_of xs) (field f.place f.flip f.name f.type_place (type_of f.ty) rest)
last_before xs f rest = ap (λ fs. onto fs rest) (map-append field_of xs (f ∷ [])) ∙ onto-append (map field_of xs) (map field_of (f ∷ [])) rest ∙ ap (onto (map field_of xs)) (field_of-is f rest)

pub one_more_before : (xs ys : List Field) (f : Field) → ys ≡ xs ++ (f ∷ []) → (rest : FieldsTree) → before (map field_of xs) (with_field (field_tree f) rest) ≡ before (map field_of ys) rest
one_more_before xs ys f e rest = rw e (ap (λ fs. record { fields = fs; close = rest.close }) (sym (last_before xs f rest.fields)))

-- no field is behind the last
pub last_field : (xs ys : List Field) (f : Field) → ys ≡ xs ++ (f ∷ []) → (p : Place) → before (map field_of xs) (with_field (field_tree f) (record { fields = no_fields; close = p })) ≡ record { fields = fields_of (map field_of ys); close = p }
last_field xs ys f e p = one_more_before xs ys f e (record { fields = no_fields; close = p }) ∙ ap (λ fs. record { fields = fs; close = p }) (sym (fields_onto (map field_of ys)))

height_before : (xs : List Field) (rest : Fields) → fields_height (onto (map field_of xs) rest) ≡ max (fields_height (fields_of (map field_of xs))) (fields_height rest)
height_before [] rest = omega arith
height_before (f ∷ xs) rest = rw (field_of-is f (onto (map field_of xs) rest), field_of-is f (fields_of (map field_of xs))) (omega (arith, height_before xs rest))

-- the code's `max`
pub taller : (a b : ℕ) → ord_max nat_cmp a b ≡ max a b
taller a b = search rules

-- of one field more, the height is that of the taller
height_with_last : (xs ys : List Field) (f : Field) (h g : ℕ) → ys ≡ xs ++ (f ∷ []) → h ≡ fields_height (fields_of (map field_of xs)) → g ≡ type_height (type_of f.ty) → max h g ≡ fields_height (fields_of (map field_of ys))
height_with_last xs ys f h g e i j =
    let q : fields_height (fields_of (map field_of ys)) ≡ max (fields_height (fields_of (map field_of xs))) (max (type_height (type_of f.ty)) 0) =
    ap fields_height (fields_onto (map field_of ys) ∙ ap (λ zs. onto (map field_of zs) no_fields) e ∙ last_before xs f no_fields)
    ∙ height_before xs (field f.place f.flip f.name f.type_place (type_of f.ty) no_fields) in
    omega arith

pub high_with_last : (xs ys : List Field) (f : Field) (h g m : ℕ) → ys ≡ xs ++ (f ∷ []) → m ≡ max h g → (h ≡ fields_height (fields_of (map field_of xs))) × (h ≤ 256) → (g ≡ type_height (type_of f.ty)) × (g ≤ 256) → (m ≡ fields_height (fields_of (map field_of ys))) × (m ≤ 256)
high_with_last xs ys f h g m e n a b = (n ∙ height_with_last xs ys f h g e a.0 b.0, omega arith)

-- before a first field there is none
pub none_before : (xs : List Field) → xs ≡ [] → (d : ℕ) (end : Place) (k : FieldsTree → State) (ts : List Terminal) → read_on everywhere end (some_fields d k) ts ≡ read_on everywhere end (some_fields d (λ fs. k (before (map field_of xs) fs))) ts
none_before xs e d end k ts = rw e refl

pub none_high : (xs : List Field) → xs ≡ [] → 0 ≡ fields_height (fields_of (map field_of xs))
none_high xs e = rw e refl

-- reading on behind one field more
pub behind_one_more : (xs ys : List Field) (f : Field) → ys ≡ xs ++ (f ∷ []) → (k : FieldsTree → State) → ◌≡◌ {A = FieldsTree → State} (λ fs. k (before (map field_of xs) (with_field (field_tree f) fs))) (λ fs. k (before (map field_of ys) fs))
behind_one_more xs ys f e k = λ i fs. k (one_more_before xs ys f e fs i)
