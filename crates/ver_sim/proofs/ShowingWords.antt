-- Registers that show their words, by number and by name.
use Rattle.std.proofs.Common.{◌≡◌, ℕ, zero, suc, ◌+◌, ◌<◌, List, [], ◌∷◌, ◌++◌, length, map, take, drop, get_or, cond, true, false, Bool, refl, sym, ap, ◌∙◌, inl, inr, subst, arith, length-set}
use Rattle.std.specs.Prelude.{slice_index, slice_set, ◌||◌}
use Rattle.std.specs.Str.{bytes_eq}
use Rattle.std.proofs.lemmas.Bool.{cond-true, cond-false}
use Rattle.std.proofs.lemmas.List.{at_drop_more}
use Rattle.fir_base.specs.Lists.{In}
use Rattle.fir_base.specs.Words.{is_among}
use Rattle.fir_base.proofs.Members.{in_map, in_map_from, in_left}
use Rattle.fir_base.proofs.SameNames.{name_is, name_same, name_other}
use Rattle.ver_ast.specs.declared.tree.Verilog.{Verilog}
use Rattle.ver_ast.specs.Nets.{SizedNet, Variable, reg_variable, regs, plain_regs, arrays, variables, nets, clocks, names_of}
use Rattle.ver_ast.specs.Stores.{store_of, stored}
use Rattle.ver_ast.proofs.Chosen.{chosen, among}
use Rattle.ver_ast.proofs.Nets.{reg_is_net}
use Rattle.ver_order.specs.ShownWords.{words_shown}
use Rattle.ver_sim.specs.declared.shown.ShownWord.{ShownWord}
use Rattle.ver_sim.specs.working.Valued.{valued, env_of}
use Rattle.ver_sim.specs.working.FlatStates.{base_of, depth_of}
use Rattle.ver_sim.specs.working.ShownWords.{words_put, AreShown}
use Rattle.ver_sim.proofs.PlacedNames.{put_value}

-- the first word of a name stands at its base
first_word : (d : ℕ) (xs : List ℕ) → 0 < d → get_or (take d xs) 0 0 ≡ get_or xs 0 0
first_word zero xs lt = absurd (omega arith)
first_word (suc d) [] lt = refl
first_word (suc d) (x ∷ xs) lt = refl

behind_word : (d i : ℕ) (xs : List ℕ) → get_or (drop d xs) i 0 ≡ get_or xs (d + i) 0
behind_word zero i xs = ap (λ (j : ℕ). get_or xs j 0) (omega arith)
behind_word (suc d) i [] = refl
behind_word (suc d) i (x ∷ xs) = let e : suc d + i ≡ suc (d + i) = omega arith in behind_word d i xs ∙ ap (λ (j : ℕ). get_or (x ∷ xs) j 0) (sym e)

stored_at : (ks : List Variable) (state name : List ℕ) → 0 < depth_of ks name → stored (store_of ks state) name ≡ slice_index state (base_of ks name)
stored_at [] state name lt = absurd (omega (arith, lt))
stored_at (k ∷ ks) state name lt = by (bytes_eq k.name name) lt (stored_at ks (drop k.depth state) name)
  where
    by : (b : Bool) → 0 < cond b k.depth (depth_of ks name)
        → (0 < depth_of ks name → stored (store_of ks (drop k.depth state)) name ≡ slice_index (drop k.depth state) (base_of ks name))
        → slice_index (cond b (take k.depth state) (store_of ks (drop k.depth state) name)) 0 ≡ slice_index state (cond b 0 (k.depth + base_of ks name))
    by true h ih = first_word k.depth state h
    by false h ih = ih h ∙ behind_word k.depth (base_of ks name) state

-- a register has a word
reg_depth : (rs : List SizedNet) (ks : List Variable) (name : List ℕ) → In (names_of rs) name → 0 < depth_of (map reg_variable rs ++ ks) name
reg_depth [] ks name m = absurd m
reg_depth (r ∷ rs) ks name m = by (bytes_eq r.0 name) refl m (reg_depth rs ks name)
  where
    by : (b : Bool) → bytes_eq r.0 name ≡ b → In (names_of (r ∷ rs)) name → (In (names_of rs) name → 0 < depth_of (map reg_variable rs ++ ks) name)
        → 0 < cond b 1 (depth_of (map reg_variable rs ++ ks) name)
    by true e i ih = omega arith
    by false e (inl s) ih = let no-such : true ≡ false = sym (name_same r.0) ∙ ap (bytes_eq r.0) s ∙ e in absurd (cc)
    by false e (inr i) ih = ih i

-- its word stands at its base
pub reg_word : (v : Verilog) (state name : List ℕ) → In (names_of (regs v)) name → stored (store_of (variables v) state) name ≡ slice_index state (base_of (variables v) name)
reg_word v state name m = stored_at (variables v) state name (reg_depth (regs v) (arrays v) name m)

module _ (v : Verilog) (state : List ℕ) where
  shown_of : (ss : List ShownWord) (rs : List SizedNet) (values : List ℕ) → AreShown v ss rs → ((r : SizedNet) → In rs r → In (valued v) r.0)
      → length values ≡ length (valued v) → (n : List ℕ)
      → env_of v (words_put ss state values) n ≡ cond (is_among (names_of rs) n) (slice_index state (base_of (variables v) n)) (env_of v values n)
  unfolding words_put
  shown_of [] [] values a m long n = refl
  shown_of [] (r ∷ rs) values a m long n = absurd a
  shown_of (s ∷ ss) [] values a m long n = absurd a
  shown_of (s ∷ ss) (r ∷ rs) values a m long n =
      let x = slice_index state s.word in
      let one : env_of v (slice_set values s.net x) n ≡ cond (bytes_eq n r.0) x (env_of v values n) =
      ap (λ (j : ℕ). env_of v (slice_set values j x) n) a.0.net_is ∙ put_value v values r.0 x (m r (inl refl)) long n in
      shown_of ss rs (slice_set values s.net x) a.1 (λ q i. m q (inr i)) (length-set values s.net x ∙ long) n
      ∙ by (is_among (names_of rs) n) (bytes_eq r.0 n) refl one
    where
      w : ℕ
      w = slice_index state (base_of (variables v) n)

      by : (b c : Bool) → bytes_eq r.0 n ≡ c
          → env_of v (slice_set values s.net (slice_index state s.word)) n ≡ cond (bytes_eq n r.0) (slice_index state s.word) (env_of v values n)
          → cond b w (env_of v (slice_set values s.net (slice_index state s.word)) n) ≡ cond (c || b) w (env_of v values n)
      by true true e one = refl
      by true false e one = refl
      by false true e one =
          let same : r.0 ≡ n = name_is r.0 n e in
          one ∙ ap (λ (k : List ℕ). cond (bytes_eq k r.0) (slice_index state s.word) (env_of v values n)) (sym same)
          ∙ cond-true (bytes_eq r.0 r.0) _ _ (name_same r.0) ∙ ap (slice_index state) (a.0.word_is ∙ ap (base_of (variables v)) same)
      by false false e one = one ∙ cond-false (bytes_eq n r.0) _ _ (name_other n r.0 (λ q. absurd (apart q)))
        where
          apart : n ≡ r.0 → ⊥
          apart q = let no-such : true ≡ false = sym (name_same r.0) ∙ ap (bytes_eq r.0) (sym q) ∙ e in cc

  long_after : (ss : List ShownWord) (values : List ℕ) → length (words_put ss state values) ≡ length values
  unfolding words_put
  long_after [] values = refl
  long_after (s ∷ ss) values = long_after ss (slice_set values s.net (slice_index state s.word)) ∙ length-set values s.net (slice_index state s.word)

-- after all, the registers without an asynchronous block show their words, and nothing else changes
pub all_words_shown : (v : Verilog) (ss : List ShownWord) (state values : List ℕ) → AreShown v ss (plain_regs v) → length values ≡ length (valued v)
    → env_of v (words_put ss state values) ≡ words_shown v (store_of (variables v) state) (env_of v values)
all_words_shown v ss state values a long = λ i n. at n i
  where
    reg : (r : SizedNet) → In (plain_regs v) r → In (regs v) r
    reg r m = (chosen _ (regs v) r m).0

    is_valued : (r : SizedNet) → In (plain_regs v) r → In (valued v) r.0
    is_valued r m = in_left (names_of (nets v)) (clocks v) r.0 (in_map (λ (s : SizedNet). s.0) (nets v) r (reg_is_net v r (reg r m)))

    word : (n : List ℕ) (b : Bool) → is_among (names_of (plain_regs v)) n ≡ b
        → cond b (slice_index state (base_of (variables v) n)) (env_of v values n) ≡ cond b (stored (store_of (variables v) state) n) (env_of v values n)
    word n true e =
        let m = in_map_from (λ (s : SizedNet). s.0) (plain_regs v) n (among (names_of (plain_regs v)) n e) in
        let name : In (names_of (regs v)) n = subst (In (names_of (regs v))) m.2 (in_map (λ (s : SizedNet). s.0) (regs v) m.0 (reg m.0 m.1)) in
        sym (reg_word v state n name)
    word n false e = refl

    at : (n : List ℕ) → env_of v (words_put ss state values) n ≡ words_shown v (store_of (variables v) state) (env_of v values) n
    at n = shown_of v state ss (plain_regs v) values a is_valued long n ∙ word n (is_among (names_of (plain_regs v)) n) refl

pub words_put_long : (ss : List ShownWord) (v : Verilog) (state values : List ℕ) → length (words_put ss state values) ≡ length values
words_put_long ss v state values = long_after v state ss values

-- one more, whatever stands for an element past the end
pub shown_next : (ss : List ShownWord) (state : List ℕ) (i : ℕ) (d : ShownWord) (values new start : List ℕ) → i < length ss
    → words_put (drop i ss) state values ≡ start → new ≡ slice_set values (get_or ss i d).net (slice_index state (get_or ss i d).word)
    → words_put (drop (i + 1) ss) state new ≡ start
unfolding words_put
shown_next ss state i d values new start lt h n =
    ap (words_put (drop (i + 1) ss) state) n ∙ sym (at_drop_more (λ l. words_put l state values) ss i d lt) ∙ h

pub shown_none : (state values : List ℕ) → words_put [] state values ≡ values
unfolding words_put
shown_none state values = refl
