-- The checks of items find the first that lacks a value.
use Rattle.std.proofs.Common.{◌≡◌, ℕ, suc, ◌+◌, ◌<◌, ◌≤◌, List, [], ◌∷◌, ◌++◌, length, take, drop, get_or, cond, true, false, Bool, refl, sym, ap, ◌∙◌, inl, subst, arith, length-append}
use Rattle.std.specs.declared.alloc.Global.{Global}
use Rattle.std.specs.Prelude.{Vec, Option, Some, None, is_none, option_map, flat_map, replicate, not, ◌&&◌, ◌||◌, ◌==◌, nat_lt}
use Rattle.std.specs.List.{list_all, list_any}
use Rattle.std.specs.Option.{option_or}
use Rattle.std.specs.Str.{bytes_eq}
use Rattle.std.proofs.lemmas.List.{take_more, length-take, length-drop, length-replicate}
use Rattle.fir_base.specs.Lists.{In}
use Rattle.fir_base.specs.Words.{is_among}
use Rattle.fir_base.specs.Ticks.{Env, rises}
use Rattle.ver_ast.specs.declared.place.VPlace.{VPlace}
use Rattle.ver_ast.specs.declared.tree.Verilog.{Verilog}
use Rattle.ver_ast.specs.declared.tree.Assign.{Assign}
use Rattle.ver_ast.specs.declared.tree.Item.{Item}
use Rattle.ver_ast.specs.declared.tree.Item.TheVariants as item
use Rattle.ver_ast.specs.declared.tree.Rhs.{Rhs}
use Rattle.ver_ast.specs.declared.tree.Rhs.TheVariants as rhs
use Rattle.ver_ast.specs.declared.tree.BinaryOp.TheVariants as binary
use Rattle.ver_ast.specs.declared.tree.SignedOp.TheVariants as signed
use Rattle.ver_ast.specs.declared.tree.Write.{Write}
use Rattle.ver_ast.specs.declared.tree.Writing.{Writing}
use Rattle.ver_ast.specs.AtomValues.{atom_value}
use Rattle.ver_ast.specs.Nets.{SizedNet, nets, arrays, Variable, variables, variable_widths, width_among, output_clocks, assigns, item_assign}
use Rattle.ver_ast.specs.Next.{Put, write_put, is_within}
use Rattle.ver_ast.specs.SideValues.{rhs_value}
use Rattle.ver_ast.specs.SoundSides.{IsSoundSide}
use Rattle.ver_ast.specs.Stores.{Store, store_of}
use Rattle.ver_places.specs.ItemPlaces.{item_place}
use Rattle.ver_sim.specs.declared.blocks.WriteTask.{WriteTask}
use Rattle.ver_sim.specs.declared.lacking.Check.{Check}
use Rattle.ver_sim.specs.declared.lacking.Lack.{Lack}
use Rattle.ver_sim.specs.declared.lacking.Lack.TheVariants as lack
use Rattle.ver_sim.specs.declared.tables.Tables.{Tables}
use Rattle.ver_sim.specs.declared.work.Work.{Work}
use Rattle.ver_sim.specs.working.Valued.{env_of}
use Rattle.ver_sim.specs.working.FlatStates.{depth_of}
use Rattle.ver_sim.specs.working.Blocks.{IsWriteTaskOf}
use Rattle.ver_sim.specs.ClocksShown.{ClocksShown}
use Rattle.ver_sim.specs.working.Checks.{CanHave, AreChecks, ChecksItem}
use Rattle.ver_sim.specs.working.Lacking.{can_lack, write_lacks, lacks, lacking_place}
use Rattle.ver_sim.specs.Lacking.{item_lacks, first_from}
use Rattle.ver_sim.specs.working.Operands.{operand_number}
use Rattle.ver_sim.specs.working.Pairs.{EachPair}
use Rattle.ver_sim.specs.working.Tables.{Know}
use Rattle.ver_sim.specs.working.WorksOf.{IsWorkOf}
use Rattle.fir_base.proofs.Members.{in_map, in_flat_map}
use Rattle.ver_ast.specs.declared.tree.Edge.{Edge}
use Rattle.ver_ast.specs.Nets.{regs, AlwaysBlock, plain_block, resetting_block}
use Rattle.ver_ast.specs.Next.{acts, puts, edge_put}
use Rattle.ver_ast.specs.AtomForms.{constant_number}
use Rattle.ver_ast.specs.Valid.{Valid, IsResetting}
use Rattle.ver_sim.proofs.BlockForms.{block_known, one_word}
use Rattle.ver_sim.proofs.BlockWrites.{fit_length}
use Rattle.ver_sim.proofs.ProcessTasks.{assign_computes}
use Rattle.ver_sim.proofs.ReadForms.{TellsWidth}

or_none : {A : Type 0} → (o : Option A) → option_or o None ≡ o
or_none None = refl
or_none (Some x) = refl

found_more : (state named values : List ℕ) (cs : List Check) (c : Check)
    → lacking_place state named values (cs ++ c ∷ []) ≡ option_or (lacking_place state named values cs) (cond (lacks state named values c.lack) (Some c.place) None)
found_more state named values [] c = refl
found_more state named values (d ∷ cs) c = by (lacks state named values d.lack) (found_more state named values cs c)
  where
    by : (b : Bool) → lacking_place state named values (cs ++ c ∷ []) ≡ option_or (lacking_place state named values cs) (cond (lacks state named values c.lack) (Some c.place) None)
        → cond b (Some d.place) (lacking_place state named values (cs ++ c ∷ [])) ≡ option_or (cond b (Some d.place) (lacking_place state named values cs)) (cond (lacks state named values c.lack) (Some c.place) None)
    by true h = refl
    by false h = h

first_more : (test : Item → Bool) (k : ℕ) (is : List Item) (i : Item) → first_from test k (is ++ i ∷ []) ≡ option_or (first_from test k is) (cond (test i) (Some (k + length is)) None)
first_more test k [] i = let e : k ≡ k + 0 = omega arith in ap (λ (n : ℕ). cond (test i) (Some n) None) e
first_more test k (j ∷ is) i = by (test j) (first_more test (k + 1) is i ∙ ap (λ (n : ℕ). option_or (first_from test (k + 1) is) (cond (test i) (Some n) None)) (omega arith))
  where
    by : (b : Bool) → first_from test (k + 1) (is ++ i ∷ []) ≡ option_or (first_from test (k + 1) is) (cond (test i) (Some (k + suc (length is))) None)
        → cond b (Some k) (first_from test (k + 1) (is ++ i ∷ [])) ≡ option_or (cond b (Some k) (first_from test (k + 1) is)) (cond (test i) (Some (k + suc (length is))) None)
    by true h = refl
    by false h = h

pub no_checks : (v : Verilog) (none : List Check) → none ≡ [] → AreChecks v none []
no_checks v none e = record { find = λ state named values h. ap (lacking_place state named values) e }

map_or : {A B : Type 0} → (f : A → B) (o : Option A) (b : Bool) (x : A) → option_map f (option_or o (cond b (Some x) None)) ≡ option_or (option_map f o) (cond b (Some (f x)) None)
map_or f None true x = refl
map_or f None false x = refl
map_or f (Some y) b x = refl

pub checks_more : (v : Verilog) (cs new : List Check) (items : List Item) (i : ℕ) (x : Item) (place : VPlace) → i < length items → x ≡ get_or items i x → place ≡ item_place v i
    → AreChecks v cs (take i items) → ChecksItem v place x cs new → AreChecks v new (take (i + 1) items)
checks_more v cs new items i x place lt is at a k = record {
  find = λ state named values h.
      let test = item_lacks v (store_of (variables v) state) named (env_of v values) in
      let front : take (i + 1) items ≡ take i items ++ x ∷ [] = take_more items i x lt ∙ ap (λ (y : Item). take i items ++ y ∷ []) (sym is) in
      let long : i ≡ 0 + length (take i items) = omega (arith, length-take i items, lt) in
      k.find state named values h ∙ ap (λ (o : Option VPlace). option_or o (cond (test x) (Some place) None)) (a.find state named values h)
      ∙ ap (λ (p : VPlace). option_or (option_map (item_place v) (first_from test 0 (take i items))) (cond (test x) (Some p) None)) at
      ∙ sym (map_or (item_place v) (first_from test 0 (take i items)) (test x) i)
      ∙ ap (λ (n : ℕ). option_map (item_place v) (option_or (first_from test 0 (take i items)) (cond (test x) (Some n) None))) long
      ∙ ap (option_map (item_place v)) (sym (ap (first_from test 0) front ∙ first_more test 0 (take i items) x));
}

-- an item that never lacks a value
pub unchecked : (v : Verilog) (place : VPlace) (x : Item) (old : List Check)
    → ((state named values : List ℕ) → CanHave v state values → item_lacks v (store_of (variables v) state) named (env_of v values) x ≡ false) → ChecksItem v place x old old
unchecked v place x old h = record {
  find = λ state named values can.
      sym (ap (λ (b : Bool). option_or (lacking_place state named values old) (cond b (Some place) None)) (h state named values can) ∙ or_none (lacking_place state named values old));
}

-- one that is checked
pub checked : (v : Verilog) (place : VPlace) (x : Item) (old new : List Check) (l : Lack) → new ≡ old ++ record { place = place; lack = l } ∷ []
    → ((state named values : List ℕ) → CanHave v state values → lacks state named values l ≡ item_lacks v (store_of (variables v) state) named (env_of v values) x)
    → ChecksItem v place x old new
checked v place x old new l n h = record {
  find = λ state named values can.
      ap (lacking_place state named values) n ∙ found_more state named values old (record { place = place; lack = l })
      ∙ ap (λ (b : Bool). option_or (lacking_place state named values old) (cond b (Some place) None)) (h state named values can);
}

or_false : (b : Bool) → (b || false) ≡ b
or_false true = refl
or_false false = refl

and_false : (b : Bool) → (b && false) ≡ false
and_false true = refl
and_false false = refl

-- a right side of another kind has a value
side_has : (ns : List SizedNet) (store : Store) (env : Env) (w : ℕ) (r : Rhs) → can_lack r ≡ false → is_none (rhs_value ns store env w r) ≡ false
side_has ns store env w (rhs.Atom a) h = refl
side_has ns store env w (rhs.Unary op a) h = refl
side_has ns store env w (rhs.Binary a binary.Add b) h = refl
side_has ns store env w (rhs.Binary a binary.Sub b) h = refl
side_has ns store env w (rhs.Binary a binary.Mul b) h = refl
side_has ns store env w (rhs.Binary a binary.Div b) h = absurd (let no-such : true ≡ false = h in cc)
side_has ns store env w (rhs.Binary a binary.Rem b) h = absurd (let no-such : true ≡ false = h in cc)
side_has ns store env w (rhs.Binary a binary.And b) h = refl
side_has ns store env w (rhs.Binary a binary.Or b) h = refl
side_has ns store env w (rhs.Binary a binary.Xor b) h = refl
side_has ns store env w (rhs.Binary a binary.Shl b) h = refl
side_has ns store env w (rhs.Binary a binary.Shr b) h = refl
side_has ns store env w (rhs.Binary a binary.Eq b) h = refl
side_has ns store env w (rhs.Binary a binary.Neq b) h = refl
side_has ns store env w (rhs.Binary a binary.Lt b) h = refl
side_has ns store env w (rhs.Binary a binary.Leq b) h = refl
side_has ns store env w (rhs.Binary a binary.Gt b) h = refl
side_has ns store env w (rhs.Binary a binary.Geq b) h = refl
side_has ns store env w (rhs.Signed a signed.Div b) h = absurd (let no-such : true ≡ false = h in cc)
side_has ns store env w (rhs.Signed a signed.Rem b) h = absurd (let no-such : true ≡ false = h in cc)
side_has ns store env w (rhs.Signed a signed.Lt b) h = refl
side_has ns store env w (rhs.Signed a signed.Leq b) h = refl
side_has ns store env w (rhs.Signed a signed.Gt b) h = refl
side_has ns store env w (rhs.Signed a signed.Geq b) h = refl
side_has ns store env w (rhs.SignedShift a b) h = refl
side_has ns store env w (rhs.Conditional c a b) h = refl
side_has ns store env w (rhs.Word m a) h = absurd (let no-such : true ≡ false = h in cc)

-- what an assign lacks
assign_lacks : (v : Verilog) (a : Assign) (state named : List ℕ) (env : Env) (b : Bool) → is_among (output_clocks v) a.target ≡ b
    → item_lacks v (store_of (variables v) state) named env (item.Assign a)
    ≡ cond b false (is_none (rhs_value (nets v) (store_of (variables v) state) env (width_among (nets v) a.target) a.rhs))
assign_lacks v a state named env true e =
    ap (λ (c : Bool). list_any (λ (x : Assign). is_none (rhs_value (nets v) (store_of (variables v) state) env (width_among (nets v) x.target) x.rhs)) (cond c [] (a ∷ [])) || false) e
assign_lacks v a state named env false e =
    ap (λ (c : Bool). list_any (λ (x : Assign). is_none (rhs_value (nets v) (store_of (variables v) state) env (width_among (nets v) x.target) x.rhs)) (cond c [] (a ∷ [])) || false) e
    ∙ or_false _ ∙ or_false _

pub assign_has : (v : Verilog) (a : Assign) → (can_lack a.rhs && not (is_among (output_clocks v) a.target)) ≡ false
    → (state named values : List ℕ) → item_lacks v (store_of (variables v) state) named (env_of v values) (item.Assign a) ≡ false
assign_has v a h state named values = by (is_among (output_clocks v) a.target) refl (can_lack a.rhs) refl
  where
    by : (b : Bool) → is_among (output_clocks v) a.target ≡ b → (c : Bool) → can_lack a.rhs ≡ c → item_lacks v (store_of (variables v) state) named (env_of v values) (item.Assign a) ≡ false
    by true e c f = assign_lacks v a state named (env_of v values) true e
    by false e false f = assign_lacks v a state named (env_of v values) false e ∙ side_has (nets v) (store_of (variables v) state) (env_of v values) (width_among (nets v) a.target) a.rhs f
    by false e true f = absurd (let no-such : true ≡ false = sym (ap (λ (x : Bool). x && not (is_among (output_clocks v) a.target)) f ∙ ap not e) ∙ h in cc)

pub side_checked : (v : Verilog) (t : Tables) → Know v t → (a : Assign) (place : VPlace) (width : ℕ) (w : Work) (old new : List Check)
    → (can_lack a.rhs && not (is_among (output_clocks v) a.target)) ≡ true → In v.items (item.Assign a) → TellsWidth t a.target width
    → ((u : Verilog) → Know u t → width ≤ 128 → IsSoundSide (nets u) (arrays u) width a.rhs → IsWorkOf u w width a.rhs)
    → new ≡ old ++ record { place = place; lack = lack.Side w } ∷ [] → ChecksItem v place (item.Assign a) old new
side_checked v t k a place width w old new h m tells works n =
    checked v place (item.Assign a) old new (lack.Side w) n
    (λ state named values can.
    ap is_none (assign_computes v t k a known width w tells works state values can.state_fits can.fit) ∙ sym (assign_lacks v a state named (env_of v values) false no_clock))
  where
    by : (b : Bool) → is_among (output_clocks v) a.target ≡ b → is_among (output_clocks v) a.target ≡ false
    by false e = e
    by true e = absurd (let no-such : false ≡ true = sym (ap (λ (x : Bool). can_lack a.rhs && not x) e ∙ and_false (can_lack a.rhs)) ∙ h in cc)

    no_clock : is_among (output_clocks v) a.target ≡ false
    no_clock = by (is_among (output_clocks v) a.target) refl

    known : In (assigns v) a
    known =
        in_flat_map (item_assign (output_clocks v)) v.items (item.Assign a) a m
        (subst (λ (b : Bool). In (cond b [] (a ∷ [])) a) (sym no_clock) (inl refl))

-- an array has so many words
words_long : (ks : List Variable) (state name : List ℕ) → length state ≡ length (variable_widths ks) → length (store_of ks state name) ≡ depth_of ks name
words_long [] state name l = refl
words_long (k ∷ ks) state name l =
    let parts = length-append (replicate k.depth k.width) (variable_widths ks) in
    let first = length-replicate {A = ℕ} k.depth k.width in
    by (bytes_eq k.name name) (words_long ks (drop k.depth state) name (omega (arith, l, parts, first, length-drop k.depth state)))
  where
    by : (b : Bool) → length (store_of ks (drop k.depth state) name) ≡ depth_of ks name
        → length (cond b (take k.depth state) (store_of ks (drop k.depth state) name)) ≡ cond b k.depth (depth_of ks name)
    by true h = omega (arith, l, length-append (replicate k.depth k.width) (variable_widths ks), length-replicate {A = ℕ} k.depth k.width, length-take k.depth state)
    by false h = h

any_joined : (p : Put → Bool) (xs ys : List Put) → list_all p (xs ++ ys) ≡ (list_all p xs && list_all p ys)
any_joined p [] ys = refl
any_joined p (x ∷ xs) ys = by (p x) (any_joined p xs ys)
  where
    by : (b : Bool) → list_all p (xs ++ ys) ≡ (list_all p xs && list_all p ys) → (b && list_all p (xs ++ ys)) ≡ ((b && list_all p xs) && list_all p ys)
    by true h = h
    by false h = refl

module _ (v : Verilog) (state values : List ℕ) (can : CanHave v state values) where
  one_past : (t : WriteTask) (w : Write) → IsWriteTaskOf v t w
      → not (list_all (is_within (store_of (variables v) state)) (write_put (nets v) (env_of v values) w)) ≡ write_lacks values t
  one_past t w h =
      let depth : length (store_of (variables v) state w.array) ≡ t.depth =
      words_long (variables v) state w.array (fit_length (variable_widths (variables v)) state can.state_fits) ∙ sym h.depth_is in
      by (atom_value (nets v) (env_of v values) w.condition == 1)
      ∙ ap (λ (d : ℕ). (atom_value (nets v) (env_of v values) w.condition == 1) && not (nat_lt (atom_value (nets v) (env_of v values) w.index) d)) depth
      ∙ ap (λ (i : ℕ). (atom_value (nets v) (env_of v values) w.condition == 1) && not (nat_lt i t.depth)) (sym (h.index_is.same values can.fit))
      ∙ ap (λ (x : ℕ). (x == 1) && not (nat_lt (operand_number values t.index) t.depth)) (sym (h.condition_is.same values can.fit))
    where
      within : Bool
      within = nat_lt (atom_value (nets v) (env_of v values) w.index) (length (store_of (variables v) state w.array))

      q : Put
      q = record { name = w.array; place = atom_value (nets v) (env_of v values) w.index; word = atom_value (nets v) (env_of v values) w.source }

      and_true : (b : Bool) → not (b && true) ≡ not b
      and_true true = refl
      and_true false = refl

      by : (b : Bool) → not (list_all (is_within (store_of (variables v) state)) (cond b (q ∷ []) [])) ≡ (b && not within)
      by true = and_true within
      by false = refl

  some_past : (ts : List WriteTask) (ws : List Write) → EachPair (IsWriteTaskOf v) ts ws
      → not (list_all (is_within (store_of (variables v) state)) (flat_map (write_put (nets v) (env_of v values)) ws)) ≡ list_any (write_lacks values) ts
  some_past [] [] h = refl
  some_past [] (w ∷ ws) h = absurd h
  some_past (t ∷ ts) [] h = absurd h
  some_past (t ∷ ts) (w ∷ ws) h =
      ap not (any_joined (is_within (store_of (variables v) state)) (write_put (nets v) (env_of v values) w) (flat_map (write_put (nets v) (env_of v values)) ws))
      ∙ turned (list_all (is_within (store_of (variables v) state)) (write_put (nets v) (env_of v values) w)) _
      ∙ ap (λ (b : Bool). b || not (list_all (is_within (store_of (variables v) state)) (flat_map (write_put (nets v) (env_of v values)) ws))) (one_past t w h.0)
      ∙ ap (λ (b : Bool). write_lacks values t || b) (some_past ts ws h.1)
    where
      turned : (a b : Bool) → not (a && b) ≡ (not a || not b)
      turned true b = refl
      turned false b = refl

pub writes_checked : (v : Verilog) (b : Writing) (place : VPlace) (clock : ℕ) (writes : Vec WriteTask Global) (old new : List Check) → ((env : Env) → ClocksShown v env → clock ≡ env b.clock)
    → EachPair (IsWriteTaskOf v) writes.items b.writes → new ≡ old ++ record { place = place; lack = lack.Writes clock writes } ∷ [] → ChecksItem v place (item.Writing b) old new
writes_checked v b place clock writes old new c h n =
    checked v place (item.Writing b) old new (lack.Writes clock writes) n
    (λ state named values can.
    ap (λ (k : ℕ). rises named k && list_any (write_lacks values) writes.items) (c (env_of v values) can.clocks_shown)
    ∙ ap (λ (p : Bool). rises named (env_of v values b.clock) && p) (sym (some_past v state values can writes.items b.writes h))
    ∙ sym (or_false _))

-- a write of a register is within
module _ (v : Verilog) (valid : Valid v) (state values : List ℕ) (can : CanHave v state values) where
  register_within : (n : List ℕ) (w x : ℕ) → In (regs v) (n, w) → is_within (store_of (variables v) state) (record { name = n; place = 0; word = x }) ≡ true
  register_within n w x m =
      let one : length (store_of (variables v) state n) ≡ 1 =
      words_long (variables v) state n (fit_length (variable_widths (variables v)) state can.state_fits) ∙ one_word (regs v) (arrays v) n (in_map (λ (s : SizedNet). s.0) (regs v) (n, w) m) in
      ap (nat_lt 0) one

  quiet : (named : List ℕ) (b : AlwaysBlock) → list_all (is_within (store_of (variables v) state)) (puts (nets v) (env_of v values) b) ≡ true
      → (false || (acts named (env_of v values) b && not (list_all (is_within (store_of (variables v) state)) (puts (nets v) (env_of v values) b)) || false)) ≡ false
  quiet named b e = ap (λ (x : Bool). false || (acts named (env_of v values) b && not x || false)) e ∙ or_false _ ∙ and_false (acts named (env_of v values) b)

  one_within : (n : List ℕ) (w x : ℕ) → In (regs v) (n, w) → list_all (is_within (store_of (variables v) state)) (record { name = n; place = 0; word = x } ∷ []) ≡ true
  one_within n w x m = ap (λ (b : Bool). b && true) (register_within n w x m)

  edge_within : (n : List ℕ) (w : ℕ) (o : Option Edge) → In (regs v) (n, w) → list_all (is_within (store_of (variables v) state)) (edge_put (nets v) (env_of v values) n o) ≡ true
  edge_within n w None m = refl
  edge_within n w (Some e) m = one_within n w (atom_value (nets v) (env_of v values) e.source) m

  pub other_has : (named : List ℕ) (x : Item) → In v.items x → ((a : Assign) → x ≡ item.Assign a → ⊥) → ((b : Writing) → x ≡ item.Writing b → ⊥)
      → item_lacks v (store_of (variables v) state) named (env_of v values) x ≡ false
  other_has named (item.Wire n) m h k = refl
  other_has named (item.Reg n) m h k = refl
  other_has named (item.Array a) m h k = refl
  other_has named (item.Assign a) m h k = absurd (h a refl)
  other_has named (item.Writing b) m h k = absurd (k b refl)
  other_has named (item.Always b) m h k =
      let p = block_known v (item.Always b) (plain_block b) m refl valid in
      quiet named (plain_block b) (one_within b.target p.width (atom_value (nets v) (env_of v values) b.source) p.register)
  other_has named (item.Resetting b) m h k =
      let p = block_known v (item.Resetting b) (resetting_block b) m refl valid in
      quiet named (resetting_block b) (by p (env_of v values b.reset == 1))
    where
      by : IsResetting v b → (c : Bool) → list_all (is_within (store_of (variables v) state)) (cond c (record { name = b.target; place = 0; word = constant_number b.value } ∷ []) (edge_put (nets v) (env_of v values) b.target b.edge)) ≡ true
      by p true = one_within b.target b.value.width (constant_number b.value) p.register
      by p false = edge_within b.target b.value.width b.edge p.register
