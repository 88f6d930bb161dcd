-- The state of a tree: a word for each register, and behind these the words of each array.
use Rattle.std.proofs.Common.{◌≡◌, ℕ, suc, ◌+◌, ◌<◌, ◌≤◌, List, [], ◌∷◌, ◌++◌, Bool, true, false, nat_eq, length, take, drop, refl, sym, ap, ap₂, ◌∙◌, inl, inr, subst, map, arith, length-append, Some, None}
use Rattle.std.specs.Prelude.{flat_map, replicate, slice_get, slice_index}
use Rattle.std.specs.Str.{bytes_eq}
use Rattle.std.proofs.lemmas.Bool.{cond_both, eq-eqb, eqb-true}
use Rattle.std.proofs.lemmas.List.{drop-drop, get_or-drop, get_or-take, length-drop, length-map, length-replicate, length-take}
use Rattle.std.proofs.lemmas.List.Concat.{flat_map-append}
use Rattle.std.proofs.lemmas.Option.{slice_get-get_or}
use Rattle.fir_base.specs.Lists.{In, Distinct}
use Rattle.fir_base.specs.Ticks.{FitEach}
use Rattle.fir_base.proofs.Members.{in_map, map_same}
use Rattle.fir_base.proofs.SameNames.{name_is, name_other, name_same}
use Rattle.fir_net.specs.declared.net.FlatNet.{FlatNet}
use Rattle.fir_net.specs.working.Arrays.{begin_from, begin_of, widths_of, words_of}
use Rattle.fir_net_names.specs.declared.name_table.NameTable.{NameTable}
use Rattle.ver_ast.specs.declared.tree.Verilog.{Verilog}
use Rattle.ver_ast.specs.Nets.{SizedNet, Variable, reg_variable, variables, variable_widths, arrays, regs, names_of, widths_of as net_widths}
use Rattle.ver_ast.specs.Stores.{Store, store_of, state_of, stored}
use Rattle.ver_build.proofs.StateArrays.{array_name, array_words_wide, state_variable}

one_word_each : (rs : List SizedNet) → variable_widths (map reg_variable rs) ≡ net_widths rs
one_word_each [] = refl
one_word_each (r ∷ rs) = ap (λ ws. r.1 ∷ ws) (one_word_each rs)

-- a register has its word of the state
one_word : (rs : List SizedNet) (ks : List Variable) (us state : List ℕ) → Distinct (names_of rs) → FitEach (net_widths rs ++ us) state → (r : SizedNet) → In rs r
    → store_of (map reg_variable rs ++ ks) state r.0 ≡ stored (store_of (map reg_variable rs ++ ks) state) r.0 ∷ []
one_word [] ks us state d h r m = absurd m
one_word (q ∷ qs) ks us [] d h r m = absurd h
one_word (q ∷ qs) ks us (x ∷ xs) d h r (inl e) =
    subst
    (λ (s : SizedNet). store_of (map reg_variable (q ∷ qs) ++ ks) (x ∷ xs) s.0 ≡ stored (store_of (map reg_variable (q ∷ qs) ++ ks) (x ∷ xs)) s.0 ∷ [])
    e (rw (name_same q.0) refl)
one_word (q ∷ qs) ks us (x ∷ xs) d h r (inr m) =
    cond_both (bytes_eq q.0 r.0) (x ∷ []) (store_of (map reg_variable qs ++ ks) xs r.0) (λ ws. ws ≡ slice_index ws 0 ∷ [])
    (λ t. absurd (d.0 (subst (In (names_of qs)) (sym (name_is q.0 r.0 t)) (in_map (λ (s : SizedNet). s.0) qs r m))))
    (λ _. one_word qs ks us xs d.1 h.1 r m)

-- and all these words are the front of the state
words_are : (rs : List SizedNet) (ks : List Variable) (us state : List ℕ) → Distinct (names_of rs) → FitEach (net_widths rs ++ us) state
    → map (λ (r : SizedNet). stored (store_of (map reg_variable rs ++ ks) state) r.0) rs ≡ take (length rs) state
words_are [] ks us state d h = refl
words_are (q ∷ qs) ks us [] d h = absurd h
words_are (q ∷ qs) ks us (x ∷ xs) d h =
    let whole = store_of (map reg_variable (q ∷ qs) ++ ks) (x ∷ xs) in
    let head : stored (store_of (map reg_variable (q ∷ qs) ++ ks) (x ∷ xs)) q.0 ≡ x = rw (name_same q.0) refl in
    let tail : map (λ (r : SizedNet). stored (store_of (map reg_variable (q ∷ qs) ++ ks) (x ∷ xs)) r.0) qs ≡ take (length qs) xs =
    map_same (λ (r : SizedNet). stored whole r.0) (λ (r : SizedNet). stored (store_of (map reg_variable qs ++ ks) xs) r.0) qs behind
    ∙ words_are qs ks us xs d.1 h.1 in
    ap₂ (λ (y : ℕ) (ys : List ℕ). y ∷ ys) head tail
  where
    behind : (r : SizedNet) → In qs r
        → stored (store_of (map reg_variable (q ∷ qs) ++ ks) (x ∷ xs)) r.0 ≡ stored (store_of (map reg_variable qs ++ ks) xs) r.0
    behind r m =
        cond_both (bytes_eq q.0 r.0) (x ∷ []) (store_of (map reg_variable qs ++ ks) xs r.0)
        (λ ws. slice_index ws 0 ≡ stored (store_of (map reg_variable qs ++ ks) xs) r.0)
        (λ t. absurd (d.0 (subst (In (names_of qs)) (sym (name_is q.0 r.0 t)) (in_map (λ (s : SizedNet). s.0) qs r m)))) (λ _. refl)

-- what is no register has its words behind
words_behind : (rs : List SizedNet) (ks : List Variable) (state name : List ℕ) → (In (names_of rs) name → ⊥)
    → store_of (map reg_variable rs ++ ks) state name ≡ store_of ks (drop (length rs) state) name
words_behind [] ks state name other = refl
words_behind (q ∷ qs) ks state name other =
    let apart : bytes_eq q.0 name ≡ false = name_other q.0 name (λ e. other (inl e)) in
    let many : 1 + length qs ≡ suc (length qs) = omega arith in
    rw apart (words_behind qs ks (drop 1 state) name (λ m. other (inr m)) ∙ ap (λ (xs : List ℕ). store_of ks xs name) (drop-drop (length qs) 1 state ∙ ap (λ (n : ℕ). drop n state) many))

state_is : (rs : List SizedNet) (store : Store) (word : SizedNet → ℕ) → ((r : SizedNet) → In rs r → store r.0 ≡ word r ∷ [])
    → state_of (map reg_variable rs) store ≡ map word rs
state_is [] store word h = refl
state_is (r ∷ rs) store word h =
    ap₂ (λ (xs ys : List ℕ). xs ++ ys) (h r (inl refl)) (state_is rs store word (λ s m. h s (inr m)))

fit_long : (ws state : List ℕ) → FitEach ws state → length state ≡ length ws
fit_long [] [] h = refl
fit_long [] (x ∷ xs) h = absurd h
fit_long (w ∷ ws) [] h = absurd h
fit_long (w ∷ ws) (x ∷ xs) h = ap suc (fit_long ws xs h.1)

not_equal : (v u : ℕ) → (v ≡ u → ⊥) → nat_eq v u ≡ false
not_equal v u other = cond_both {A = Bool} (nat_eq v u) true false (λ _. nat_eq v u ≡ false) (λ t. absurd (other (eqb-true _ _ t))) (λ t. t)

same_equal : (v : ℕ) → nat_eq v v ≡ true
same_equal v = eq-eqb v v refl

-- the word at a place of the words from a place on
pub word_there : (xs : List ℕ) (place many i : ℕ) → place + many ≤ length xs → i < many
    → slice_get (take many (drop place xs)) i ≡ Some (slice_index xs (place + i))
word_there xs place many i fit less =
    let long : i < length (take many (drop place xs)) = omega (arith, length-take many (drop place xs), length-drop place xs) in
    slice_get-get_or (take many (drop place xs)) i 0 long
    ∙ ap Some (get_or-take many (drop place xs) i 0 less ∙ get_or-drop place xs i 0)

module _ (net : FlatNet) (t : NameTable) (whole : List ℕ) where
  -- where the words of an array stand, of arrays of which the first begins at a base
  pub record InState (ms : List ℕ) (base k : ℕ) : Type 0 where
    pub place : ℕ
    pub begins : begin_from net.arrays base ms k ≡ Some place
    pub words : store_of (map (state_variable net t) ms) (drop base whole) (array_name t k) ≡ take (words_of net.arrays k) (drop place whole)
    pub within : place + words_of net.arrays k ≤ base + length (flat_map (widths_of net) ms)

  in_state : (ms : List ℕ) → Distinct (map (array_name t) ms) → (base k : ℕ) → In ms k → InState ms base k
  in_state [] once base k m = absurd m
  in_state (j ∷ ms) once base k (inl e) =
      let long = length-append (widths_of net j) (flat_map (widths_of net) ms) in
      let many : length (widths_of net j) ≡ words_of net.arrays j = length-replicate (words_of net.arrays j) _ in
      subst (InState (j ∷ ms) base) e
      (record { place = base; begins = rw (same_equal j) refl; words = rw (name_same (array_name t j)) refl; within = omega (arith, long, many) })
  in_state (j ∷ ms) once base k (inr m) =
      let rest = in_state ms once.1 (base + words_of net.arrays j) k m in
      let among : In (map (array_name t) ms) (array_name t k) = in_map (array_name t) ms k m in
      let other : bytes_eq (array_name t j) (array_name t k) ≡ false =
      name_other (array_name t j) (array_name t k) (λ e. once.0 (subst (In (map (array_name t) ms)) (sym e) among)) in
      let apart : nat_eq j k ≡ false = not_equal j k (λ e. once.0 (subst (λ (i : ℕ). In (map (array_name t) ms) (array_name t i)) (sym e) among)) in
      let long = length-append (widths_of net j) (flat_map (widths_of net) ms) in
      let many : length (widths_of net j) ≡ words_of net.arrays j = length-replicate (words_of net.arrays j) _ in
      let fit = rest.within in
      record {
        place = rest.place;
        begins = rw apart rest.begins;
        words = rw other (ap (λ (xs : List ℕ). store_of (map (state_variable net t) ms) xs (array_name t k)) (drop-drop (words_of net.arrays j) base whole) ∙ rest.words);
        within = omega (arith, long, many, fit);
      }

  -- what is no array of these begins nowhere
  pub begins_nowhere : (ms : List ℕ) (base k : ℕ) → (In ms k → ⊥) → begin_from net.arrays base ms k ≡ None
  begins_nowhere [] base k none = refl
  begins_nowhere (j ∷ ms) base k none =
      let apart : nat_eq j k ≡ false = not_equal j k (λ e. none (inl e)) in
      rw apart (begins_nowhere ms (base + words_of net.arrays j) k (λ m. none (inr m)))

  -- the arrays of another store, one behind the other
  pub arrays_state : (store : Store) (ms : List ℕ) → state_of (map (state_variable net t) ms) store ≡ flat_map (λ k. store (array_name t k)) ms
  arrays_state store [] = refl
  arrays_state store (k ∷ ms) = ap (λ (xs : List ℕ). store (array_name t k) ++ xs) (arrays_state store ms)

pub widths_joined : (v : Verilog) → variable_widths (variables v) ≡ net_widths (regs v) ++ variable_widths (arrays v)
widths_joined v =
    flat_map-append (λ (k : Variable). replicate k.depth k.width) (map reg_variable (regs v)) (arrays v)
    ∙ ap (λ (ws : List ℕ). ws ++ variable_widths (arrays v)) (one_word_each (regs v))

module _ (v : Verilog) where
  module _ (state : List ℕ) (once : Distinct (names_of (regs v))) (fit : FitEach (variable_widths (variables v)) state) where
    fits : FitEach (net_widths (regs v) ++ variable_widths (arrays v)) state
    fits = subst (λ (ws : List ℕ). FitEach ws state) (widths_joined v) fit

    -- each register has a word, and the words are the front of the state
    pub word_of : (r : SizedNet) → In (regs v) r → store_of (variables v) state r.0 ≡ stored (store_of (variables v) state) r.0 ∷ []
    word_of r m = one_word (regs v) (arrays v) (variable_widths (arrays v)) state once fits r m

    pub words_stored : map (λ (r : SizedNet). stored (store_of (variables v) state) r.0) (regs v) ≡ take (length (regs v)) state
    words_stored = words_are (regs v) (arrays v) (variable_widths (arrays v)) state once fits

    pub array_stored : (net : FlatNet) (t : NameTable) → arrays v ≡ map (state_variable net t) net.array_order → Distinct (map (array_name t) net.array_order)
        → length (regs v) ≡ length net.state → (k : ℕ) → In net.array_order k → (In (names_of (regs v)) (array_name t k) → ⊥)
        → (place : ℕ) × (begin_of net k ≡ Some place)
        × (store_of (variables v) state (array_name t k) ≡ take (words_of net.arrays k) (drop place state)) × (place + words_of net.arrays k ≤ length state)
    array_stored net t are apart same k m none =
        let at = in_state net t state net.array_order apart (length (regs v)) k m in
        let wide : variable_widths (arrays v) ≡ flat_map (widths_of net) net.array_order = ap variable_widths are ∙ array_words_wide net t in
        let long : length (net_widths (regs v) ++ variable_widths (arrays v)) ≡ length (regs v) + length (flat_map (widths_of net) net.array_order) =
        length-append (net_widths (regs v)) (variable_widths (arrays v))
        ∙ ap (λ (n : ℕ). n + length (variable_widths (arrays v))) (length-map (regs v) (λ (r : SizedNet). r.1))
        ∙ ap (λ (ws : List ℕ). length (regs v) + length ws) wide in
        let all : length state ≡ length (net_widths (regs v) ++ variable_widths (arrays v)) = fit_long (net_widths (regs v) ++ variable_widths (arrays v)) state fits in
        let within = at.within in (
          at.place,
          ap (λ (n : ℕ). begin_from net.arrays n net.array_order k) (sym same) ∙ at.begins,
          words_behind (regs v) (arrays v) state (array_name t k) none
              ∙ ap (λ (ks : List Variable). store_of ks (drop (length (regs v)) state) (array_name t k)) are ∙ at.words,
          omega (arith, within, long, all),
        )

  -- so is the state of another store in which each register has a word
  pub state_words : (store : Store) → ((r : SizedNet) → In (regs v) r → store r.0 ≡ stored store r.0 ∷ [])
      → state_of (variables v) store ≡ map (λ (r : SizedNet). stored store r.0) (regs v) ++ state_of (arrays v) store
  state_words store h =
      flat_map-append (λ (k : Variable). store k.name) (map reg_variable (regs v)) (arrays v)
      ∙ ap (λ (ws : List ℕ). ws ++ state_of (arrays v) store) (state_is (regs v) store (λ (r : SizedNet). stored store r.0) h)
