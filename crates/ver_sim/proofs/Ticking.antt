-- A tick is one that the tree allows.
use Rattle.std.proofs.Common.{◌≡◌, ℕ, ◌+◌, List, [], ◌∷◌, ◌++◌, map, cond, true, false, Bool, refl, sym, ap, ◌∙◌, inl, inr, subst}
use Rattle.std.specs.Prelude.{Option, Some, None, IsSome, is_none, option_map, flat_map, filter, not, ◌&&◌, ◌||◌}
use Rattle.std.specs.List.{list_all, list_any}
use Rattle.std.proofs.lemmas.Bool.{cond-true}
use Rattle.fir_base.specs.Lists.{In}
use Rattle.fir_base.specs.Ticks.{Env, Tick}
use Rattle.fir_base.proofs.Members.{in_flat_map_from}
use Rattle.ver_ast.specs.declared.tree.Verilog.{Verilog}
use Rattle.ver_ast.specs.declared.tree.Assign.{Assign}
use Rattle.ver_ast.specs.declared.tree.Item.{Item}
use Rattle.ver_ast.specs.Allows.{VAllows}
use Rattle.ver_ast.specs.ClockOutputs.{clocks_shown}
use Rattle.ver_ast.specs.Nets.{nets, variables, output_nets, names_of, AlwaysBlock, blocks, item_assign, item_block, output_clocks}
use Rattle.ver_ast.specs.Next.{Put, acts, puts, all_puts, is_within, state_after}
use Rattle.ver_ast.specs.Processes.{Process, assigning, processes, wanted}
use Rattle.ver_ast.specs.Settled.{SourcesShown, Rest}
use Rattle.ver_ast.specs.Stores.{store_of}
use Rattle.ver_ast.specs.Valid.{Valid}
use Rattle.ver_ast.proofs.Processes.{by_kind}
use Rattle.ver_places.specs.ItemPlaces.{item_place}
use Rattle.ver_sim.specs.declared.sim.NoValue.{NoValue}
use Rattle.ver_sim.specs.working.NoValues.{LacksAtRest}
use Rattle.ver_sim.specs.Lacking.{item_lacks, first_from}
use Rattle.ver_sim.specs.working.NoValues.{no_value_of}
use Rattle.ver_sim.specs.working.Views.{VSimView, shown_env, shown_outputs, store}

none_of : (test : Item → Bool) (k : ℕ) (is : List Item) → first_from test k is ≡ None → (i : Item) → In is i → test i ≡ false
none_of test k [] e i m = absurd m
none_of test k (j ∷ is) e i m = by (test j) refl e m (λ o g. none_of test (k + 1) is g i o)
  where
    by : (b : Bool) → test j ≡ b → cond b (Some k) (first_from test (k + 1) is) ≡ None → In (j ∷ is) i → (In is i → first_from test (k + 1) is ≡ None → test i ≡ false) → test i ≡ false
    by true f g n rest = absurd (cc)
    by false f g (inl s) rest = subst (λ (x : Item). test x ≡ false) s f
    by false f g (inr o) rest = rest o g

no_number : (v : Verilog) (o : Option ℕ) → option_map (no_value_of v) o ≡ None → o ≡ None
no_number v None e = refl
no_number v (Some k) e = absurd (cc)

neither : (a b : Bool) → (a || b) ≡ false → (a ≡ false) × (b ≡ false)
neither true b e = absurd (cc)
neither false b e = (refl, e)

none_any : {A : Type 0} → (p : A → Bool) (xs : List A) → list_any p xs ≡ false → (x : A) → In xs x → p x ≡ false
none_any p [] e x m = absurd m
none_any p (y ∷ ys) e x (inl s) = subst (λ z. p z ≡ false) s (neither (p y) (list_any p ys) e).0
none_any p (y ∷ ys) e x (inr m) = none_any p ys (neither (p y) (list_any p ys) e).1 x m

has_some : (o : Option ℕ) → is_none o ≡ false → IsSome o
has_some None e = absurd (cc)
has_some (Some x) e = refl

all_joined : (p : Put → Bool) (xs ys : List Put) → list_all p xs ≡ true → list_all p ys ≡ true → list_all p (xs ++ ys) ≡ true
all_joined p [] ys h k = k
all_joined p (x ∷ xs) ys h k = by (p x) h (λ g. all_joined p xs ys g k)
  where
    by : (b : Bool) → (b && list_all p xs) ≡ true → (list_all p xs ≡ true → list_all p (xs ++ ys) ≡ true) → (b && list_all p (xs ++ ys)) ≡ true
    by true g rest = rest g
    by false g rest = absurd (cc)

all_chosen : (p : Put → Bool) (f : AlwaysBlock → List Put) (test : AlwaysBlock → Bool) (bs : List AlwaysBlock)
    → ((b : AlwaysBlock) → In bs b → test b ≡ true → list_all p (f b) ≡ true) → list_all p (flat_map f (filter test bs)) ≡ true
all_chosen p f test [] h = refl
all_chosen p f test (b ∷ bs) h = by (test b) refl (all_chosen p f test bs (λ c m. h c (inr m)))
  where
    by : (c : Bool) → test b ≡ c → list_all p (flat_map f (filter test bs)) ≡ true → list_all p (flat_map f (cond c (b ∷ filter test bs) (filter test bs))) ≡ true
    by true e rest = all_joined p (f b) (flat_map f (filter test bs)) (h b (inl refl) e) rest
    by false e rest = rest

turned : (a b : Bool) → (a && not b) ≡ false → a ≡ true → b ≡ true
turned true true e f = refl
turned true false e f = absurd (cc)
turned false b e f = absurd (cc)

module _ (v : Verilog) (valid : Valid v) (state : List ℕ) (tick : Tick) (env : Env) (rest : Rest v state tick env)
    (none : first_from (item_lacks v (store_of (variables v) state) tick.clocks env) 0 v.items ≡ None) where
  lacks_nothing : (i : Item) → In v.items i → item_lacks v (store_of (variables v) state) tick.clocks env i ≡ false
  lacks_nothing i m = none_of (item_lacks v (store_of (variables v) state) tick.clocks env) 0 v.items none i m

  has_values : (p : Process) → In (processes v) p → IsSome (wanted v (store_of (variables v) state) env p)
  has_values =
      by_kind v (λ p. IsSome (wanted v (store_of (variables v) state) env p))
      (λ a m. let i = in_flat_map_from (item_assign (output_clocks v)) v.items a m in
      has_some (wanted v (store_of (variables v) state) env (assigning a))
      (none_any (λ (x : Assign). is_none (wanted v (store_of (variables v) state) env (assigning x))) (item_assign (output_clocks v) i.0)
      (neither _ _ (lacks_nothing i.0 i.1)).0 a i.2))
      (λ b m. refl)

  all_within : list_all (is_within (store_of (variables v) state)) (all_puts v tick env) ≡ true
  all_within =
      all_chosen (is_within (store_of (variables v) state)) (puts (nets v) env) (acts tick.clocks env) (blocks v)
      (λ b m e. let i = in_flat_map_from item_block v.items b m in
      turned (acts tick.clocks env b) (list_all (is_within (store_of (variables v) state)) (puts (nets v) env b))
      (none_any (λ (x : AlwaysBlock). acts tick.clocks env x && not (list_all (is_within (store_of (variables v) state)) (puts (nets v) env x))) (item_block i.0)
      (neither _ _ (lacks_nothing i.0 i.1)).1 b i.2) e)

  pub allowed : VAllows v state tick (map env (names_of (output_nets v))) (clocks_shown v) (state_after v state (all_puts v tick env))
  allowed = (
    env,
    record { rest = rest; values = has_values },
    refl,
    refl,
    cond-true (list_all (is_within (store_of (variables v) state)) (all_puts v tick env)) (Some (state_after v state (all_puts v tick env))) None all_within,
  )

-- set, settled and taken
pub ticked : (old one two new : VSimView) (tick : Tick) → one.tree ≡ old.tree → one.state ≡ old.state → SourcesShown one.tree one.state tick (shown_env one)
    → two.tree ≡ one.tree → two.state ≡ one.state → Valid two.tree
    → ((t : Tick) → SourcesShown one.tree one.state t (shown_env one) → Rest two.tree two.state t (shown_env two))
    → option_map (no_value_of two.tree) (first_from (item_lacks two.tree (store two) tick.clocks (shown_env two)) 0 two.tree.items) ≡ None
    → shown_outputs new ≡ shown_outputs two → new.state ≡ state_after two.tree two.state (all_puts two.tree tick (shown_env two))
    → VAllows old.tree old.state tick (shown_outputs new) (clocks_shown old.tree) new.state
ticked old one two new tick t1 s1 sources t2 s2 valid rests none outputs next =
    let allows = allowed two.tree valid two.state tick (shown_env two) (rests tick sources) (no_number two.tree _ none) in
    let here : VAllows two.tree two.state tick (shown_outputs new) (clocks_shown two.tree) new.state =
    subst (λ (s : List ℕ). VAllows two.tree two.state tick (shown_outputs new) (clocks_shown two.tree) s) (sym next)
    (subst (λ (o : List ℕ). VAllows two.tree two.state tick o (clocks_shown two.tree) (state_after two.tree two.state (all_puts two.tree tick (shown_env two)))) (sym outputs) allows) in
    subst (λ (s : List ℕ). VAllows old.tree s tick (shown_outputs new) (clocks_shown old.tree) new.state) (s2 ∙ s1)
    (subst (λ (v : Verilog). VAllows v two.state tick (shown_outputs new) (clocks_shown v) new.state) (t2 ∙ t1) here)

some_number : (v : Verilog) (o : Option ℕ) (n : NoValue) → option_map (no_value_of v) o ≡ Some n → (k : ℕ) × (o ≡ Some k) × (n.place ≡ item_place v k)
some_number v None n e = absurd (cc)
some_number v (Some k) n e = let same : n ≡ no_value_of v k = cc in (k, refl, ap (λ (m : NoValue). m.place) same)

-- at rest an item lacks a value
pub lacked : (old one two : VSimView) (tick : Tick) (n : NoValue) → one.tree ≡ old.tree → one.state ≡ old.state → SourcesShown one.tree one.state tick (shown_env one)
    → two.tree ≡ one.tree → two.state ≡ one.state → ((t : Tick) → SourcesShown one.tree one.state t (shown_env one) → Rest two.tree two.state t (shown_env two))
    → option_map (no_value_of two.tree) (first_from (item_lacks two.tree (store two) tick.clocks (shown_env two)) 0 two.tree.items) ≡ Some n
    → LacksAtRest old.tree old.state tick n
lacked old one two tick n t1 s1 sources t2 s2 rests e =
    let first = some_number two.tree _ n e in
    subst (λ (s : List ℕ). LacksAtRest old.tree s tick n) (s2 ∙ s1)
    (subst (λ (v : Verilog). LacksAtRest v two.state tick n) (t2 ∙ t1)
    (record { env = shown_env two; item = first.0; rest = rests tick sources; first = first.1; place_is = first.2 }))
