-- Forms of expressions come behind their operands.
use Rattle.std.proofs.Common.{◌≡◌, ℕ, ◌<◌, List, [], ◌∷◌, ◌++◌, map, length, subst, ◌∙◌, append_assoc, Result, IfOk, arith}
use Rattle.std.proofs.lemmas.Result.{IfOk-weaker}
use Rattle.fir_bits.specs.declared.operators.PrimOp.{PrimOp}
use Rattle.fir_ast.specs.declared.place.Place.{Place}
use Rattle.fir_ast.specs.Expressions.{Expression, Expressions, mux, operation, validif}
use Rattle.fir_ast.specs.Types.{DataType}
use Rattle.fir_meaning.specs.TypedScopes.{TypedScope}
use Rattle.fir_meaning.specs.working.WellTyped.{HasType, HaveTypes}
use Rattle.fir_types.specs.working.Notes.{Note, expression_note, expression_notes, notes_of_each}
use Rattle.fir_meaning.specs.working.Leafed.{first_term, muxes, operands, terms}
use Rattle.fir_leaf.specs.working.Nodes.{AllBelow, node_term}
use Rattle.fir_meaning.specs.working.Terms.{Term, terms_of}
use Rattle.fir_meaning.specs.working.Terms as over
use Rattle.fir_ground.specs.declared.ground.Ground.{Ground}
use Rattle.fir_ground.specs.declared.walk.Walk.{Walk}
use Rattle.fir_ground.specs.working.Expressions.{ExpandsFirst}
use Rattle.fir_ground.specs.working.Grounds.{Ahead, Enters, Expands, types_in}
use Rattle.fir_ground.proofs.Coming.{come_then, enters_then, expands_then}
use Rattle.fir_leaf_pairs.proofs.Entries.{grows_length, grows_on}
use Rattle.fir_leaf_pairs.proofs.Giving.{all_keep, below_stays, term_keeps}

module _ (g : Ground) (typed : TypedScope) where
  -- what the walk does for an expression, for its first leaf, and for operands
  abbrev pub Gives : Expression → Walk → Walk → List ℕ → Type 0
  Gives e a b ids = (t : DataType) (rest : List Note) → Enters g typed (expression_notes typed e ++ rest) a → HasType typed e t → Expands g rest a b ids (terms typed e)

  abbrev pub GivesFirst : Expression → Walk → Walk → ℕ → Type 0
  GivesFirst e a b id =
      (t : DataType) (rest : List Note) → Enters g typed (expression_notes typed e ++ rest) a → HasType typed e t → ExpandsFirst g rest a b id (first_term (terms typed e))

  abbrev pub GivesAll : Expressions → Walk → Walk → List ℕ → Type 0
  GivesAll es a b ids =
      (ts : List DataType) (rest : List Note) → Enters g typed (notes_of_each typed es ++ rest) a → HaveTypes typed es ts → Expands g rest a b ids (operands typed es)

  module _ (rest : List Note) (t : DataType) {A E : Type 0} (result : Result A E) (items_of : A → List ℕ) where
    pub operation_comes : (p : Place) (op : PrimOp) (es : Expressions) (ks : List ℕ) (a b d : Walk) (ids : List ℕ)
        → Enters g typed (expression_notes typed (operation p op es ks) ++ rest) a → HasType typed (operation p op es ks) t → GivesAll es a b ids
        → ((note : Note) (more : List Note) → Ahead (types_in g) b.notes.now (note ∷ more)
        → IfOk result (λ made. Expands g more b d (items_of made) (over.operation op (terms_of (map (node_term b.nodes.items) ids)) ks ∷ [])))
        → IfOk result (λ made. Expands g rest a d (items_of made) (terms typed (operation p op es ks)))
    operation_comes p op es ks a b d ids enters typed_as gives form =
        let e = operation p op es ks in
        let left = expression_note typed e ∷ rest in
        let begins : Enters g typed (notes_of_each typed es ++ left) a =
        subst (λ ns. Enters g typed ns a) (append_assoc (notes_of_each typed es) (expression_note typed e ∷ []) rest) enters in
        let came = gives typed_as.0 left begins typed_as.2 in
        IfOk-weaker result _ _
        (λ made own.
        expands_then g left rest a b d (items_of made) (terms typed e) came.comes
        (subst (λ ts. Expands g rest b d (items_of made) (over.operation op (terms_of ts) ks ∷ [])) came.gives.terms own))
        (form (expression_note typed e) rest came.comes.ahead)

    pub validif_comes : (p : Place) (x y : Expression) (a b d z : Walk) (one : ℕ) (two : List ℕ)
        → Enters g typed (expression_notes typed (validif p x y) ++ rest) a → HasType typed (validif p x y) t → GivesFirst x a b one → Gives y b d two
        → ((note : Note) (more : List Note) → Ahead (types_in g) d.notes.now (note ∷ more) → one < length d.nodes.items → AllBelow (length d.nodes.items) two
        → IfOk result (λ made. Expands g more d z (items_of made) (map (over.validif (node_term d.nodes.items one)) (map (node_term d.nodes.items) two))))
        → IfOk result (λ made. Expands g rest a z (items_of made) (terms typed (validif p x y)))
    validif_comes p x y a b d z one two enters typed_as first second form =
        let e = validif p x y in
        let left = expression_note typed e ∷ rest in
        let after = expression_notes typed y ++ left in
        let same : expression_notes typed e ++ rest ≡ expression_notes typed x ++ after = simp append_assoc in
        let begins = subst (λ ns. Enters g typed ns a) same enters in
        let own = first _ after begins typed_as.2 in
        let middle = enters_then g typed (expression_notes typed x ++ after) after a b begins own.comes in
        let next = second typed_as.1 left middle typed_as.3 in
        let grown = next.comes.grows in
        let below : one < length d.nodes.items = omega (arith, own.shows.within, grows_length b.nodes.items d.nodes.items grown) in
        let condition = term_keeps b.nodes.items d.nodes.items one grown own.shows.within ∙ own.shows.term in
        IfOk-weaker result _ _
        (λ made comes.
        let out = items_of made in
        expands_then g left rest a d z out (terms typed e) (come_then g after left a b d own.comes next.comes)
        (subst (λ k. Expands g rest d z out (map (over.validif k) (terms typed y))) condition
        (subst (λ ts. Expands g rest d z out (map (over.validif (node_term d.nodes.items one)) ts)) next.gives.terms comes)))
        (form (expression_note typed e) rest next.comes.ahead below next.gives.within)

    pub mux_comes : (p : Place) (x y u : Expression) (a b d f z : Walk) (one : ℕ) (two three : List ℕ)
        → Enters g typed (expression_notes typed (mux p x y u) ++ rest) a → HasType typed (mux p x y u) t → GivesFirst x a b one → Gives y b d two → Gives u d f three
        → ((note : Note) (more : List Note) → Ahead (types_in g) f.notes.now (note ∷ more) → one < length f.nodes.items → AllBelow (length f.nodes.items) two
        → AllBelow (length f.nodes.items) three
        → IfOk result (λ made. Expands g more f z (items_of made)
        (muxes (node_term f.nodes.items one) (map (node_term f.nodes.items) two) (map (node_term f.nodes.items) three))))
        → IfOk result (λ made. Expands g rest a z (items_of made) (terms typed (mux p x y u)))
    mux_comes p x y u a b d f z one two three enters typed_as first second third form =
        let e = mux p x y u in
        let left = expression_note typed e ∷ rest in
        let last = expression_notes typed u ++ left in
        let after = expression_notes typed y ++ last in
        let same : expression_notes typed e ++ rest ≡ expression_notes typed x ++ after = simp append_assoc in
        let begins = subst (λ ns. Enters g typed ns a) same enters in
        let own = first _ after begins typed_as.3 in
        let middle = enters_then g typed (expression_notes typed x ++ after) after a b begins own.comes in
        let next = second typed_as.1 last middle typed_as.4 in
        let behind = enters_then g typed after last b d middle next.comes in
        let end = third typed_as.2 left behind typed_as.7 in
        let grown = end.comes.grows in
        let all = grows_on b.nodes.items d.nodes.items f.nodes.items next.comes.grows grown in
        let below : one < length f.nodes.items = omega (arith, own.shows.within, grows_length b.nodes.items f.nodes.items all) in
        let within = below_stays (length d.nodes.items) (length f.nodes.items) two (grows_length d.nodes.items f.nodes.items grown) next.gives.within in
        let condition = term_keeps b.nodes.items f.nodes.items one all own.shows.within ∙ own.shows.term in
        let ones = all_keep d.nodes.items f.nodes.items two grown next.gives.within ∙ next.gives.terms in
        IfOk-weaker result _ _
        (λ made comes.
        let out = items_of made in
        expands_then g left rest a f z out (terms typed e) (come_then g after left a b f own.comes (come_then g last left b d f next.comes end.comes))
        (subst (λ k. Expands g rest f z out (muxes k (terms typed y) (terms typed u))) condition
        (subst (λ ts. Expands g rest f z out (muxes (node_term f.nodes.items one) ts (terms typed u))) ones
        (subst (λ ts. Expands g rest f z out (muxes (node_term f.nodes.items one) (map (node_term f.nodes.items) two) ts)) end.gives.terms comes))))
        (form (expression_note typed e) rest end.comes.ahead below within end.gives.within)
