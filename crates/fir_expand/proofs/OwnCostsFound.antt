-- What the code has found of a module tells what it costs.
use Rattle.std.proofs.Common.{◌≡◌, ℕ, zero, suc, ◌+◌, ◌*◌, ◌<◌, List, [], ◌∷◌, ◌++◌, map, take, get_or, length, Option, Some, None, refl, sym, ap, ◌∙◌, arith}
use Rattle.std.specs.Prelude.{max, slice_get}
use Rattle.std.proofs.lemmas.Option.{get_or_from_slice_get, none-some, same_Some}
use Rattle.std.proofs.lemmas.List.{map_more}
use Rattle.fir_base.proofs.Elements.{there}
use Rattle.fir_ast.specs.Types.{DataType}
use Rattle.fir_ast.specs.Circuits.{ModuleTree}
use Rattle.fir_meaning.specs.TypeLeaves.{leaf_count}
use Rattle.fir_meaning.specs.ComponentTypes.{typed_scope}
use Rattle.fir_meaning.specs.TypedScopes.{TypedScope}
use Rattle.fir_meaning.specs.Visibility.{declarations}
use Rattle.fir_type_table.specs.working.Saturated.{saturated}
use Rattle.fir_types.specs.working.Notes.{Note, of_expression, of_reference, Pick}
use Rattle.fir_types.specs.working.ModuleNotes.{module_notes}
use Rattle.fir_types.specs.working.Noted.{saturated_note, saturated_pick}
use Rattle.fir_meaning.specs.Costs.{leaves_where, sum_of}
use Rattle.fir_expand.specs.working.OwnCosts.{own_cost}
use Rattle.fir_expand.specs.working.OwnSums.{leaves_known, leaves_noted, picked, plain_cost_of_block}
use Rattle.fir_expand.proofs.OwnCostSums.{module_summed}

-- strides do not count
picked_saturated : (ps : List Pick) → picked (map saturated_pick ps) ≡ picked ps
picked_saturated [] = refl
picked_saturated (p ∷ ps) = ap (λ n. max 1 p.length * n) (picked_saturated ps)

note_saturated : (n : Note) → leaves_noted (saturated_note n) ≡ leaves_noted n
note_saturated (of_expression t) = refl
note_saturated (of_reference None) = refl
note_saturated (of_reference (Some r)) = ap (λ n. leaf_count r.data_type * n) (picked_saturated r.picks)

notes_saturated : (ns : List Note) → sum_of (map leaves_noted (map saturated_note ns)) ≡ sum_of (map leaves_noted ns)
notes_saturated [] = refl
notes_saturated (n ∷ ns) = omega (arith, note_saturated n, notes_saturated ns)

types_known : (ks : TypedScope) → sum_of (map leaves_where (map (λ k. k.data_type) ks)) ≡ leaves_known ks
types_known [] = refl
types_known (k ∷ ks) = ap (λ n. leaves_where k.data_type + n) (types_known ks)

pub cost_found : (modules : List ModuleTree) (m : ModuleTree) (notes : List Note) (types : List (Option DataType)) (noted declared plain first all : ℕ)
    → notes ≡ map saturated_note (module_notes modules m) → types ≡ map (λ k. k.data_type) (typed_scope modules (declarations m))
    → noted ≡ saturated (sum_of (map leaves_noted notes)) → declared ≡ saturated (sum_of (map leaves_where types))
    → plain ≡ saturated (plain_cost_of_block m.body) → first ≡ saturated (noted + declared) → all ≡ saturated (first + plain)
    → all ≡ saturated (own_cost modules m)
cost_found modules m notes types noted declared plain first all notes_are types_are noted_is declared_is plain_is first_is all_is =
    let in_notes : sum_of (map leaves_noted notes) ≡ sum_of (map leaves_noted (module_notes modules m)) =
    ap (λ ns. sum_of (map leaves_noted ns)) notes_are ∙ notes_saturated (module_notes modules m) in
    let in_types : sum_of (map leaves_where types) ≡ leaves_known (typed_scope modules (declarations m)) =
    ap (λ ts. sum_of (map leaves_where ts)) types_are ∙ types_known (typed_scope modules (declarations m)) in
    omega (arith, noted_is, declared_is, plain_is, first_is, all_is, in_notes, in_types, module_summed modules m)

-- the tree of what is read at an index
pub tree_read : {A B : Type 0} (view : A → B) (xs : List A) (k : ℕ) (x : A) (y : B) → slice_get (map view xs) k ≡ Some y → x ≡ get_or xs k x → y ≡ view x
tree_read view [] k x y is at = absurd (none-some y is)
tree_read view (z ∷ xs) zero x y is at = sym (same_Some (view z) y is) ∙ ap view (sym at)
tree_read view (z ∷ xs) (suc k) x y is at = tree_read view xs k x y is at

-- one module more
pub costs_next : (modules : List ModuleTree) (k : ℕ) (costs : List ℕ) (own : ℕ) → k < length modules
    → costs ≡ map (λ m. saturated (own_cost modules m)) (take k modules)
    → ((m : ModuleTree) → slice_get modules k ≡ Some m → own ≡ saturated (own_cost modules m))
    → costs ++ own ∷ [] ≡ map (λ m. saturated (own_cost modules m)) (take (k + 1) modules)
costs_next modules k costs own within so_far is =
    let cost : ModuleTree → ℕ = λ m. saturated (own_cost modules m) in
    let m = there modules k within in
    ap (λ ns. ns ++ own ∷ []) so_far ∙ ap (λ n. map cost (take k modules) ++ n ∷ []) (is m.0 m.1 ∙ ap cost (sym (get_or_from_slice_get modules k m.0 m.0 m.1)))
    ∙ sym (map_more cost modules k m.0 within)
