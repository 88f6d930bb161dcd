-- A line is skipped, an init line or a tick, and only one of these.
-- Its first word tells which; what it gives is told by its words.
use Rattle.std.proofs.Common.{◌≡◌, ℕ, ◌+◌, List, [], ◌∷◌, true, false, refl, codes, inl, inr, ap, sym, ◌∙◌, subst, map, Option, Some, None}
use Rattle.std.specs.List.{onto_first}
use Rattle.std.proofs.lemmas.Bool.{eqb-true}
use Rattle.fir_base.specs.Ticks.{Tick}
use Rattle.trace_text.specs.Lines.{words_of, is_remark, IsSkipped}
use Rattle.trace_text.specs.Spelling.{hexadecimal_of, decimal_of, is_clock_list, are_clocks, clocks_of, listed}
use Rattle.trace_text.specs.declared.shape.FoundWord.{FoundWord}
use Rattle.trace_text.specs.Shapes.{TraceShape, found}
use Rattle.trace_text.specs.SpelledLines.{IsInitLine, IsTickLine}

first_with : (b : ℕ) (parts : List (List ℕ)) (w : List ℕ) (ws : List (List ℕ)) → onto_first b parts ≡ w ∷ ws → (rest : List ℕ) × (b ∷ rest ≡ w)
first_with b [] w ws h = ([], (cc))
first_with b (part ∷ parts) w ws h = (part, (cc))

-- the first word of a remark is one
pub remark_word : (line w : List ℕ) (ws : List (List ℕ)) → is_remark line ≡ true → words_of line ≡ w ∷ ws → is_remark w ≡ true
remark_word [] w ws r h = let e : [] ≡ w = cc in subst (λ v. is_remark v ≡ true) e refl
remark_word (b ∷ bs) w ws r h =
    let e : words_of (35 ∷ bs) ≡ w ∷ ws = subst (λ c. words_of (c ∷ bs) ≡ w ∷ ws) (eqb-true b 35 r) h in
    subst (λ v. is_remark v ≡ true) (first_with 35 (words_of bs) w ws e).1 refl

no_clocks : (parts : List (List ℕ)) → are_clocks (onto_first 35 parts) ≡ false
no_clocks [] = refl
no_clocks (part ∷ parts) = refl

no_clock_list : (w : List ℕ) → is_remark w ≡ true → is_clock_list w ≡ true → ⊥
no_clock_list [] r h = let f : false ≡ true = h in cc
no_clock_list (b ∷ bs) r h =
    let f : are_clocks (listed (35 ∷ bs)) ≡ true = subst (λ c. is_clock_list (c ∷ bs) ≡ true) (eqb-true b 35 r) h in
    let k : false ≡ true = sym (no_clocks (listed bs)) ∙ f in
    cc

no_init : is_remark (codes "init") ≡ true → ⊥
no_init h = let f : false ≡ true = h in cc

abbrev plain_tick : List ℕ → List ℕ → Tick
plain_tick inputs clocks = record { inputs = inputs; clocks = clocks }

same_sum : (a b c d : ℕ) → a ≡ b → c ≡ d → a + c ≡ b + d
same_sum a b c d h k = cc

pub same_tick : (a b : Tick) → a.inputs ≡ b.inputs → a.clocks ≡ b.clocks → a ≡ b
same_tick a b h k = ap (λ inputs. plain_tick inputs a.clocks) h ∙ ap (λ clocks. plain_tick b.inputs clocks) k

module _ (shape : TraceShape) (line : List ℕ) where
  pub skipped_no_init : IsSkipped line → (place value : ℕ) → IsInitLine shape line place value → ⊥
  skipped_no_init s place value (inl i) = no_init (remark_word line (codes "init") (i.name ∷ i.digits ∷ []) s.remark i.words)
  skipped_no_init s place value (inr i) = no_init (remark_word line (codes "init") (i.name ∷ i.address ∷ i.digits ∷ []) s.remark i.words)

  pub skipped_no_tick : IsSkipped line → (tick : Tick) → IsTickLine shape line tick → ⊥
  skipped_no_tick s tick i = no_clock_list i.clock_list (remark_word line i.clock_list i.values s.remark i.words) i.clocks_spelled

  init_word : (w : List ℕ) (ws : List (List ℕ)) (place value : ℕ) → IsInitLine shape line place value → words_of line ≡ w ∷ ws → w ≡ codes "init"
  init_word w ws place value (inl i) h = let e : w ∷ ws ≡ codes "init" ∷ i.name ∷ i.digits ∷ [] = sym h ∙ i.words in cc
  init_word w ws place value (inr i) h = let e : w ∷ ws ≡ codes "init" ∷ i.name ∷ i.address ∷ i.digits ∷ [] = sym h ∙ i.words in cc

  pub init_no_tick : (place value : ℕ) → IsInitLine shape line place value → (tick : Tick) → IsTickLine shape line tick → ⊥
  init_no_tick place value i tick t =
      let e = init_word t.clock_list t.values place value i t.words in
      let f : false ≡ true = subst (λ v. is_clock_list v ≡ true) e t.clocks_spelled in
      cc

  abbrev place_of : Option FoundWord → ℕ
  place_of None = 0
  place_of (Some f) = f.place

  pub one_init : (place p value v : ℕ) → IsInitLine shape line place value → IsInitLine shape line p v → (place ≡ p) × (value ≡ v)
  one_init place p value v (inl i) (inl j) =
      let e : codes "init" ∷ i.name ∷ i.digits ∷ [] ≡ codes "init" ∷ j.name ∷ j.digits ∷ [] = sym i.words ∙ j.words in
      let name : i.name ≡ j.name = cc in
      let digits : i.digits ≡ j.digits = cc in (
        ap place_of (sym i.named ∙ ap (found shape) name ∙ j.named),
        sym i.is ∙ ap hexadecimal_of digits ∙ j.is,
      )
  one_init place p value v (inl i) (inr j) =
      let e : codes "init" ∷ i.name ∷ i.digits ∷ [] ≡ codes "init" ∷ j.name ∷ j.address ∷ j.digits ∷ [] = sym i.words ∙ j.words in
      absurd (cc)
  one_init place p value v (inr i) (inl j) =
      let e : codes "init" ∷ i.name ∷ i.address ∷ i.digits ∷ [] ≡ codes "init" ∷ j.name ∷ j.digits ∷ [] = sym i.words ∙ j.words in
      absurd (cc)
  one_init place p value v (inr i) (inr j) =
      let e : codes "init" ∷ i.name ∷ i.address ∷ i.digits ∷ [] ≡ codes "init" ∷ j.name ∷ j.address ∷ j.digits ∷ [] = sym i.words ∙ j.words in
      let name : i.name ≡ j.name = cc in
      let address : i.address ≡ j.address = cc in
      let digits : i.digits ≡ j.digits = cc in
      let first = ap place_of (sym i.named ∙ ap (found shape) name ∙ j.named) in (
        sym i.place_is ∙ same_sum i.first j.first (decimal_of i.address) (decimal_of j.address) first (ap decimal_of address) ∙ j.place_is,
        sym i.is ∙ ap hexadecimal_of digits ∙ j.is,
      )

  pub one_tick : (tick other : Tick) → IsTickLine shape line tick → IsTickLine shape line other → tick ≡ other
  one_tick tick other i j =
      let e : i.clock_list ∷ i.values ≡ j.clock_list ∷ j.values = sym i.words ∙ j.words in
      let clock_list : i.clock_list ≡ j.clock_list = cc in
      let values : i.values ≡ j.values = cc in
      same_tick tick other
      (sym i.values_are ∙ ap (map hexadecimal_of) values ∙ j.values_are)
      (sym i.clocks_are ∙ ap clocks_of clock_list ∙ j.clocks_are)
