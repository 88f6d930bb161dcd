-- What a statement costs bounds the leaves of its expressions.
use Rattle.std.proofs.Common.{◌≡◌, ℕ, ◌*◌, ◌≤◌, max, Option, Some, None, refl, ap, ◌∙◌, subst, arith}
use Rattle.fir_ast.specs.Types.{DataType}
use Rattle.fir_ast.specs.Expressions.{Expression, reference, literal, operation, mux, validif, Parts, no_parts, subfield, subindex, subaccess}
use Rattle.fir_ast.specs.Statements.{SinkReference}
use Rattle.fir_meaning.specs.Costs.{leaves_where, named_leaves, picks_from, picks_where, size, size_of_sink, typed_leaves}
use Rattle.fir_meaning.specs.Reaching.{Reached, field_of_type, vector_of_type}
use Rattle.fir_meaning.specs.ResetItems.{type_of_field, type_of_element, length_of_vector}
use Rattle.fir_meaning.specs.ResetJoins.{type_of_known}
use Rattle.fir_meaning.specs.SizedScopes.{sink_expression}
use Rattle.fir_meaning.specs.TypeLeaves.{leaf_count}
use Rattle.fir_meaning.specs.TypedScopes.{TypedScope, known}
use Rattle.fir_meaning.specs.working.WellTyped.{HasType, Reaches}
use Rattle.fir_meaning.proofs.FoundTypes.{found_type}
use Rattle.fir_ground.proofs.TermCounts.{number_count}

some_product : (n m : ℕ) → 1 ≤ m → 1 ≤ max 1 n * m
some_product n m h = grind arith

picks_some : (t : DataType) (ps : Parts) → 1 ≤ picks_from t ps
picks_some t no_parts = omega arith
picks_some t (subfield first p x rest) = picks_some (type_of_field (field_of_type x t)) rest
picks_some t (subindex first p i rest) = picks_some (type_of_element (vector_of_type t)) rest
picks_some t (subaccess first e rest) =
    some_product (length_of_vector (vector_of_type t)) (picks_from (type_of_element (vector_of_type t)) rest)
    (picks_some (type_of_element (vector_of_type t)) rest)

picks_somewhere : (o : Option DataType) (ps : Parts) → 1 ≤ picks_where o ps
picks_somewhere None ps = omega arith
picks_somewhere (Some t) ps = picks_some t ps

times_some : (n k : ℕ) → 1 ≤ k → n ≤ n * k
times_some n k h = grind arith

pub typed_count : (typed : TypedScope) (e : Expression) (t : DataType) → HasType typed e t → typed_leaves typed e ≡ leaf_count t
typed_count typed e t h = ap (λ c. leaves_where c.has) (found_type typed e t h)

named_count : (typed : TypedScope) (s : SinkReference) (t : DataType) → HasType typed (sink_expression s) t → leaf_count t ≤ named_leaves typed s
named_count typed s t h =
    let own : ℕ = typed_leaves typed (sink_expression s) in
    let k : ℕ = picks_where (type_of_known (known typed s.name)) s.parts in
    let e : own ≡ leaf_count t = typed_count typed (sink_expression s) t h in
    let le : own ≤ own * k = times_some own k (picks_somewhere (type_of_known (known typed s.name)) s.parts) in
    subst (λ n. n ≤ named_leaves typed s) e le

pub sink_count : (typed : TypedScope) (s : SinkReference) (r : Reached) → Reaches typed s r → leaf_count r.data_type ≤ size_of_sink typed s
sink_count typed s r h = let own = named_count typed s r.data_type (h.0, r, h.1, h.2, refl) in omega arith

pub size_count : (typed : TypedScope) (e : Expression) (t : DataType) → HasType typed e t → leaf_count t ≤ size typed e
size_count typed (reference p n ps) t h = let own = named_count typed (record { place = p; name = n; parts = ps }) t h in omega arith
size_count typed (literal l) t h = let e : leaf_count t ≡ 1 = ap leaf_count h ∙ number_count l.signed l.width in omega arith
size_count typed (operation p op es ks) t h = let e = typed_count typed (operation p op es ks) t h in omega arith
size_count typed (mux p c a b) t h = let e = typed_count typed (mux p c a b) t h in omega arith
size_count typed (validif p c a) t h = let e = typed_count typed (validif p c a) t h in omega arith
