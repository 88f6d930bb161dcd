-- A circuit has one shape of traces.
-- Bases determine their names, one after the other; a shape's words are as many as the words and arrays of the state, so that their names stand last.
use Rattle.std.proofs.Common.{◌≡◌, ℕ, ◌+◌, ◌<◌, List, [], ◌∷◌, ◌++◌, length, drop, map, Bool, true, false, MatchBool, refl, sym, ap, ◌∙◌, subst, arith, length-append}
use Rattle.std.proofs.Math.Seq.{drop-append_seam}
use Rattle.std.proofs.lemmas.List.{length-map}
use Rattle.fir_ast.specs.Circuits.{CircuitTree}
use Rattle.fir_net_names.specs.Names.{is_free, suffixed, IsFirstFree, AreNamed}
use Rattle.trace_text.specs.declared.shape.StateWord.{StateWord}
use Rattle.trace_text.specs.Shapes.{TraceShape, WordKind, plain, word_kinds}
use Rattle.trace_text.specs.working.Shapes.{shape_of}
use Rattle.fir_meaning.specs.SourceDesigns.{SourceDesign}
use Rattle.fir_outcome.specs.Traces.{IsShapeFor, IsTraceShape}

module _ (taken : List (List ℕ)) (base a b : List ℕ) where
  not_below : (p : IsFirstFree taken base a) (q : IsFirstFree taken base b) → p.number < q.number → ⊥
  not_below p q low =
      let free : is_free taken (suffixed base p.number) ≡ true = subst (λ name. is_free taken name ≡ true) p.is p.free in
      let not_free : is_free taken (suffixed base p.number) ≡ false = q.before p.number low in
      cc

one_first : (taken : List (List ℕ)) (base a b : List ℕ) → IsFirstFree taken base a → IsFirstFree taken base b → a ≡ b
one_first taken base a b p q =
    let low : p.number < q.number → ⊥ = not_below taken base a b p q in
    let high : q.number < p.number → ⊥ = not_below taken base b a q p in
    let same : p.number ≡ q.number = omega arith in
    p.is ∙ ap (suffixed base) same ∙ sym q.is

one_by : (free : Bool) (taken : List (List ℕ)) (base a b : List ℕ) → MatchBool free (a ≡ base) (IsFirstFree taken base a)
    → MatchBool free (b ≡ base) (IsFirstFree taken base b) → a ≡ b
one_by true taken base a b p q = p ∙ sym q
one_by false taken base a b p q = one_first taken base a b p q

-- the names of bases are determined
one_naming : (taken bases xs ys : List (List ℕ)) → AreNamed taken bases xs → AreNamed taken bases ys → xs ≡ ys
one_naming taken [] [] [] p q = refl
one_naming taken [] [] (y ∷ ys) p q = absurd q
one_naming taken [] (x ∷ xs) ys p q = absurd p
one_naming taken (base ∷ bases) [] ys p q = absurd p
one_naming taken (base ∷ bases) (x ∷ xs) [] p q = absurd q
one_naming taken (base ∷ bases) (x ∷ xs) (y ∷ ys) p q =
    let first : x ≡ y = one_by (is_free taken base) taken base x y p.0 q.0 in
    let rest : xs ≡ ys = one_naming (x ∷ taken) bases xs ys p.1 (subst (λ name. AreNamed (name ∷ taken) bases ys) (sym first) q.1) in
    cc

abbrev names_of : List StateWord → List (List ℕ)
names_of = map (λ w. w.name)

as_many : (ws : List StateWord) → length (names_of ws) ≡ length (word_kinds ws)
as_many ws = simp length-map

abbrev word_of : List ℕ → WordKind → StateWord
word_of name kind = record { name = name; width = kind.0; depth = kind.1 }

-- words are determined by their names, widths and depths
same_words : (vs ws : List StateWord) → names_of vs ≡ names_of ws → word_kinds vs ≡ word_kinds ws → vs ≡ ws
same_words [] [] names kinds = refl
same_words [] (w ∷ ws) names kinds = cc
same_words (v ∷ vs) [] names kinds = cc
same_words (v ∷ vs) (w ∷ ws) names kinds =
    let name : v.name ≡ w.name = cc in
    let kind : ◌≡◌ {A = WordKind} (v.width, v.depth) (w.width, w.depth) = cc in
    let rest_names : names_of vs ≡ names_of ws = cc in
    let rest_kinds : word_kinds vs ≡ word_kinds ws = cc in
    let first : v ≡ w = ap (λ n. word_of n (v.width, v.depth)) name ∙ ap (word_of w.name) kind in
    let rest : vs ≡ ws = same_words vs ws rest_names rest_kinds in
    cc

-- equal lists with equally long ends have equal ends
same_ends : (xs ys us vs : List (List ℕ)) → xs ++ us ≡ ys ++ vs → length us ≡ length vs → us ≡ vs
same_ends xs ys us vs same long =
    let lengths : length xs + length us ≡ length ys + length vs = sym (length-append xs us) ∙ ap length same ∙ length-append ys vs in
    let front : length xs ≡ length ys = omega arith in
    sym (drop-append_seam xs us) ∙ ap (λ k. drop k (xs ++ us)) front ∙ ap (drop (length ys)) same ∙ drop-append_seam ys vs

same_shape : (s t : TraceShape) → s.inputs ≡ t.inputs → s.clocks ≡ t.clocks → s.state ≡ t.state → s ≡ t
same_shape s t inputs clocks state =
    ap (λ i. shape_of i s.clocks s.state) inputs ∙ ap (λ n. shape_of t.inputs n s.state) clocks ∙ ap (λ ws. shape_of t.inputs t.clocks ws) state

one_shape_for : (x : SourceDesign) (s t : TraceShape) → IsShapeFor x s → IsShapeFor x t → s ≡ t
one_shape_for x s t p q =
    let values : plain s ≡ plain t = p.values ∙ sym q.values in
    let kinds : word_kinds s.state ≡ word_kinds t.state = p.words ∙ sym q.words in
    let long : length (names_of s.state) ≡ length (names_of t.state) = omega (arith, as_many s.state, as_many t.state, ap length kinds) in
    let names : names_of s.state ≡ names_of t.state =
    same_ends p.ports q.ports (names_of s.state) (names_of t.state) (one_naming [] _ _ _ p.named q.named) long in
    same_shape s t (ap (λ x. x.inputs) values) (ap (λ x. x.clocks) values) (same_words s.state t.state names kinds)

pub one_shape : (c : CircuitTree) (s t : TraceShape) → IsTraceShape c s → IsTraceShape c t → s ≡ t
one_shape c s t p q = one_shape_for p.source s t (p.each p.source p.is_source) (q.each p.source p.is_source)
