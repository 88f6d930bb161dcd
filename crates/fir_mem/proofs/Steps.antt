-- What the loops put, turn by turn.
use Rattle.std.proofs.Common.{◌≡◌, ℕ, zero, suc, ◌+◌, ◌<◌, ◌≤◌, List, [], ◌∷◌, ◌++◌, length, take, set, Bool, true, false, get_or, refl, sym, ap, ◌∙◌, subst, arith, length-append, length-set, ◌⊎◌, inl, inr}
use Rattle.std.specs.Prelude.{slice_get, Some, None, Option, Result, Ok, Err, IfOk, OnOk}
use Rattle.std.proofs.lemmas.List.{take_more}
use Rattle.std.proofs.lemmas.Option.{slice_get_past, slice_get_within, slice_get_read, same_Some}
use Rattle.fir_base.proofs.Writes.{push_left, push_cases, write_other, write_cases}
use Rattle.fir_bits.specs.declared.operators.PrimOp.TheVariants.{Eq, And, Lt}
use Rattle.fir_bits.specs.declared.types.NumTy.{NumTy}
use Rattle.fir_bits.specs.declared.values.Num.{Num}
use Rattle.fir_net.specs.declared.array.ArrayRead.{ArrayRead}
use Rattle.fir_net.specs.declared.array.Pipe.{Pipe}
use Rattle.fir_net.specs.declared.leaf.Leaf.{Leaf}
use Rattle.fir_net.specs.declared.leaf.Role.{Role}
use Rattle.fir_net.specs.declared.leaf.Role.TheVariants as role
use Rattle.fir_net.specs.declared.node.Node.{Node}
use Rattle.fir_net.specs.declared.reads.Read.{Read}
use Rattle.fir_net.specs.working.Values.{type_of_leaf}
use Rattle.fir_mem.specs.declared.clocked_writes.PortWrite.{PortWrite}
use Rattle.fir_mem.specs.declared.clocked_writes.PortWrites.{PortWrites}
use Rattle.fir_mem.specs.working.Built.{Built, Puts, NarrowLeaves, bit, choice, literal, zero_of, next_node, next_leaf, put_node, put_leaf, set_leaf, guard_read, left_read, is_read_read, lower_pipe_at, put_here, put_written, put_choice, choice_read, put_choices, choices_read, put_end, put_within, put_is_read, put_zero, put_guard, put_left, put_taken, taken_read, put_word, reading_of, register_of, lower_pipe, lower_role, lower_leaf, lower_first}

choices_push : (b : Built) (a : Read) (ty : NumTy) (ws : List PortWrite) (w : PortWrite) (r : Read)
    → (put_choices b a ty (ws ++ w ∷ []) r ≡ put_choice (put_choices b a ty ws r) a ty w (choices_read b a ty ws r))
    × (choices_read b a ty (ws ++ w ∷ []) r ≡ choice_read (put_choices b a ty ws r) a w)
unfolding put_choices choices_read
choices_push b a ty [] w r = (refl, refl)
choices_push b a ty (x ∷ ws) w r = choices_push (put_choice b a ty x r) a ty ws w (choice_read b a x)

-- one write more
pub choices_more : (b now next : Built) (a : Read) (ty : NumTy) (ws : List PortWrite) (i : ℕ) (w : PortWrite) (word t r : Read)
    → Puts now t (put_choices b a ty (take i ws) word) (choices_read b a ty (take i ws) word) → i < length ws → w ≡ get_or ws i w
    → Puts next r (put_choice now a ty w t) (choice_read now a w)
    → Puts next r (put_choices b a ty (take (i + 1) ws) word) (choices_read b a ty (take (i + 1) ws) word)
choices_more b now next a ty ws i w word t r so low is one =
    let both = choices_push b a ty (take i ws) w word in
    let longer : take (i + 1) ws ≡ take i ws ++ w ∷ [] = take_more ws i w low ∙ ap (λ (x : PortWrite). take i ws ++ x ∷ []) (sym is) in
    record {
      all =
          one.all ∙ ap (λ (x : Built). put_choice x a ty w t) so.all ∙ ap (put_choice (put_choices b a ty (take i ws) word) a ty w) so.read
          ∙ sym both.0 ∙ ap (λ (xs : List PortWrite). put_choices b a ty xs word) (sym longer);
      read = one.read ∙ ap (λ (x : Built). choice_read x a w) so.all ∙ sym both.1 ∙ ap (λ (xs : List PortWrite). choices_read b a ty xs word) (sym longer);
    }

-- ---- what is put changes no leaf
same_choice : (b : Built) (a : Read) (ty : NumTy) (w : PortWrite) (r : Read) → (put_choice b a ty w r).leaves ≡ b.leaves
unfolding put_choice put_written put_here
same_choice b a ty w r = refl

pub same_choices : (b : Built) (a : Read) (ty : NumTy) (ws : List PortWrite) (r : Read) → (put_choices b a ty ws r).leaves ≡ b.leaves
unfolding put_choices
same_choices b a ty [] r = refl
same_choices b a ty (w ∷ ws) r = same_choices (put_choice b a ty w r) a ty ws (choice_read b a w) ∙ same_choice b a ty w r

same_guard : (b : Built) (r : ArrayRead) (ty : NumTy) (end : Num) (t : Read) → (put_guard b r ty end t).leaves ≡ b.leaves
unfolding put_guard put_zero put_is_read put_within put_end
same_guard b r ty end t = refl

pub same_left : (b : Built) (r : ArrayRead) (ty : NumTy) (ws : PortWrites) (word : Read) → (put_left b r ty ws word).leaves ≡ b.leaves
unfolding put_left
same_left b r ty ws word =
    same_guard (put_choices b r.address ty ws.writes word) r ty ws.end (choices_read b r.address ty ws.writes word) ∙ same_choices b r.address ty ws.writes word

pub same_taken : (b : Built) (is_new : Bool) (r : ArrayRead) (ty : NumTy) (ws : Option PortWrites) (word : Read) → (put_taken b is_new r ty ws word).leaves ≡ b.leaves
unfolding put_taken
same_taken b is_new r ty None word = refl
same_taken b true r ty (Some ws) word = same_left b r ty ws word
same_taken b false r ty (Some ws) word = refl

-- what a turn keeps: no fewer leaves, and all narrow
record Keeps (b c : Built) (k : ℕ) : Type 0 where
  longer : length b.leaves ≤ length c.leaves
  narrow : NarrowLeaves b.leaves → NarrowLeaves c.leaves
  others : (j : ℕ) (l : Leaf) → (j ≡ k → ⊥) → slice_get b.leaves j ≡ Some l → slice_get c.leaves j ≡ Some l

module _ (xs : List Leaf) (h : NarrowLeaves xs) where
  pushed_narrow : (m : Leaf) → m.width ≤ 128 → NarrowLeaves (xs ++ m ∷ [])
  pushed_narrow m low = record { each = λ k l e. by k l (push_cases xs m k l e) }
    where
      by : (k : ℕ) (l : Leaf) → (slice_get xs k ≡ Some l) ⊎ ((k ≡ length xs) × (m ≡ l)) → l.width ≤ 128
      by k l (inl e) = h.each k l e
      by k l (inr (e, s)) = subst (λ (x : Leaf). x.width ≤ 128) s low

  set_narrow : (k : ℕ) (m : Leaf) → k < length xs → m.width ≤ 128 → NarrowLeaves (set xs k m)
  set_narrow k m within low = record { each = λ j l e. by j l (write_cases xs k m j l within e) }
    where
      by : (j : ℕ) (l : Leaf) → ((j ≡ k) × (m ≡ l)) ⊎ ((j ≡ k → ⊥) × (slice_get xs j ≡ Some l)) → l.width ≤ 128
      by j l (inl (e, s)) = subst (λ (x : Leaf). x.width ≤ 128) s low
      by j l (inr (n, e)) = h.each j l e

module _ (all : List PortWrites) (b : Built) (k : ℕ) where
  pub pipe_leaves : (l : Leaf) (p : Pipe) → (lower_pipe all b k l p).leaves
      ≡ set (b.leaves ++ reading_of l p.read ∷ []) k (register_of l p (taken_read (put_word b l p.read) p.is_new p.read (type_of_leaf l) (slice_get all p.read.array) (next_leaf b)))
  unfolding lower_pipe put_word
  pipe_leaves l p =
      ap (λ (ls : List Leaf). set ls k (register_of l p (taken_read (put_word b l p.read) p.is_new p.read (type_of_leaf l) (slice_get all p.read.array) (next_leaf b))))
      (same_taken (put_word b l p.read) p.is_new p.read (type_of_leaf l) (slice_get all p.read.array) (next_leaf b))

  keeps_pipe : (l : Leaf) (p : Pipe) → slice_get b.leaves k ≡ Some l → Keeps b (lower_pipe all b k l p) k
  keeps_pipe l p at =
      let within : k < length b.leaves = slice_get_within b.leaves k l at in
      let next = taken_read (put_word b l p.read) p.is_new p.read (type_of_leaf l) (slice_get all p.read.array) (next_leaf b) in
      let longer : k < length (b.leaves ++ reading_of l p.read ∷ []) = simp length-append (omega arith) in
      record {
        longer = rw (pipe_leaves l p, length-set (b.leaves ++ reading_of l p.read ∷ []) k (register_of l p next), length-append b.leaves (reading_of l p.read ∷ [])) (omega arith);
        narrow = λ h.
            rw (pipe_leaves l p)
            (set_narrow (b.leaves ++ reading_of l p.read ∷ []) (pushed_narrow b.leaves h (reading_of l p.read) (h.each k l at)) k (register_of l p next) longer (h.each k l at));
        others = λ j m n e.
            rw (pipe_leaves l p)
            (write_other (b.leaves ++ reading_of l p.read ∷ []) k (register_of l p next) j n ∙ push_left b.leaves (reading_of l p.read ∷ []) j m e);
      }

  nothing_kept : Keeps b b k
  nothing_kept = record { longer = omega arith; narrow = λ h. h; others = λ j l n e. e }

  keeps_role : (l : Leaf) (r : Role) → slice_get b.leaves k ≡ Some l → Keeps b (lower_role all b k l r) k
  unfolding lower_role
  keeps_role l (role.Pipe p) at = keeps_pipe l p at
  keeps_role l role.Input at = nothing_kept
  keeps_role l role.Clock at = nothing_kept
  keeps_role l (role.Output r) at = nothing_kept
  keeps_role l (role.Wire r) at = nothing_kept
  keeps_role l (role.Register r) at = nothing_kept
  keeps_role l (role.Reading r) at = nothing_kept
  keeps_role l (role.ClockOutput r) at = nothing_kept
  keeps_role l (role.ClockWire r) at = nothing_kept

  keeps_leaf : (o : Option Leaf) → slice_get b.leaves k ≡ o → Keeps b (lower_leaf all b k o) k
  unfolding lower_leaf
  keeps_leaf None at = nothing_kept
  keeps_leaf (Some l) at = keeps_role l l.role at

-- after the first leaves, so many
pub record First (b c : Built) (n : ℕ) : Type 0 where
  pub longer : length b.leaves ≤ length c.leaves
  pub narrow : NarrowLeaves b.leaves → NarrowLeaves c.leaves
  pub others : (j : ℕ) (l : Leaf) → n ≤ j → slice_get b.leaves j ≡ Some l → slice_get c.leaves j ≡ Some l

pub keeps_first : (all : List PortWrites) (b : Built) (n : ℕ) → First b (lower_first all b n) n
unfolding lower_first
keeps_first all b zero = record { longer = omega arith; narrow = λ h. h; others = λ j l n e. e }
keeps_first all b (suc n) =
    let before = lower_first all b n in
    let so = keeps_first all b n in
    let one = keeps_leaf all before n (slice_get before.leaves n) refl in
    record {
      longer = omega (arith, so.longer, one.longer);
      narrow = λ h. one.narrow (so.narrow h);
      others = λ j l m e. one.others j l (λ s. omega (arith, m, s)) (so.others j l (omega (arith, m)) e);
    }

pub first_more : (all : List PortWrites) (b : Built) (n : ℕ) → lower_first all b (n + 1) ≡ lower_leaf all (lower_first all b n) n (slice_get (lower_first all b n).leaves n)
unfolding lower_first
first_more all b n = let e : n + 1 ≡ suc n = omega arith in ap (lower_first all b) e

-- what was put is also put by another name
pub puts_on : {E : Type 0} → (result : Result Read E) (new p q : Built) (by to : Read) → IfOk result (λ r. Puts new r p by) → p ≡ q → by ≡ to → IfOk result (λ r. Puts new r q to)
puts_on (Ok r) new p q by to h e f = record { all = h.all ∙ e; read = h.read ∙ f }
puts_on (Err x) new p q by to h e f = h

-- ---- what the functions put, one after the other
pub choice_built : {E : Type 0} → (result : Result Read E) (b one two new : Built) (a : Read) (ty : NumTy) (w : PortWrite) (before here written : Read) (n : Node)
    → Puts one here (put_node b (bit Eq w.address a)) (next_node b) → Puts two written (put_node one (bit And w.condition here)) (next_node one) → n ≡ choice ty written w.given before
    → IfOk result (λ r. Puts new r (put_node two n) (next_node two)) → IfOk result (λ r. Puts new r (put_choice b a ty w before) (choice_read b a w))
unfolding put_choice put_written put_here choice_read
choice_built result b one two new a ty w before here written n x y is z =
    let second : two ≡ put_node (put_node b (bit Eq w.address a)) (bit And w.condition (next_node b)) =
    y.all ∙ ap (λ (r : Read). put_node one (bit And w.condition r)) x.read ∙ ap (λ (c : Built). put_node c (bit And w.condition (next_node b))) x.all in
    let last : n ≡ choice ty (next_node (put_node b (bit Eq w.address a))) w.given before = is ∙ ap (λ (r : Read). choice ty r w.given before) (y.read ∙ ap next_node x.all) in
    puts_on result new (put_node two n) (put_choice b a ty w before) (next_node two) (choice_read b a w) z
    (ap (λ (c : Built). put_node c n) second ∙ ap (put_node (put_node (put_node b (bit Eq w.address a)) (bit And w.condition (next_node b)))) last) (ap next_node second)

pub read_built : {E : Type 0} → (result : Result Read E) (b one two new : Built) (r : ArrayRead) (end : Num) (last within : Read)
    → Puts one last (put_node b (literal end)) (next_node b) → Puts two within (put_node one (bit Lt r.address last)) (next_node one)
    → IfOk result (λ x. Puts new x (put_node two (bit And r.enable within)) (next_node two)) → IfOk result (λ x. Puts new x (put_is_read b r end) (is_read_read b r end))
unfolding put_is_read put_within put_end is_read_read
read_built result b one two new r end last within x y z =
    let second : two ≡ put_node (put_node b (literal end)) (bit Lt r.address (next_node b)) =
    y.all ∙ ap (λ (v : Read). put_node one (bit Lt r.address v)) x.read ∙ ap (λ (c : Built). put_node c (bit Lt r.address (next_node b))) x.all in
    let third : within ≡ next_node (put_node b (literal end)) = y.read ∙ ap next_node x.all in
    puts_on result new (put_node two (bit And r.enable within)) (put_is_read b r end) (next_node two) (is_read_read b r end) z
    (ap (λ (c : Built). put_node c (bit And r.enable within)) second ∙ ap (λ (v : Read). put_node (put_node (put_node b (literal end)) (bit Lt r.address (next_node b))) (bit And r.enable v)) third)
    (ap next_node second)

pub guard_built : {E : Type 0} → (result : Result Read E) (b one two new : Built) (r : ArrayRead) (ty : NumTy) (end v : Num) (taken is_read none : Read) (n : Node)
    → Puts one is_read (put_is_read b r end) (is_read_read b r end) → Puts two none (put_node one (literal v)) (next_node one) → v ≡ zero_of ty → n ≡ choice ty is_read taken none
    → IfOk result (λ x. Puts new x (put_node two n) (next_node two)) → IfOk result (λ x. Puts new x (put_guard b r ty end taken) (guard_read b r ty end))
unfolding put_guard put_zero guard_read
guard_built result b one two new r ty end v taken is_read none n x y is m z =
    let second : two ≡ put_node (put_is_read b r end) (literal (zero_of ty)) =
    y.all ∙ ap (λ (u : Num). put_node one (literal u)) is ∙ ap (λ (c : Built). put_node c (literal (zero_of ty))) x.all in
    let last : n ≡ choice ty (is_read_read b r end) taken (next_node (put_is_read b r end)) =
    m ∙ ap (λ (u : Read). choice ty u taken none) x.read ∙ ap (choice ty (is_read_read b r end) taken) (y.read ∙ ap next_node x.all) in
    puts_on result new (put_node two n) (put_guard b r ty end taken) (next_node two) (guard_read b r ty end) z
    (ap (λ (c : Built). put_node c n) second ∙ ap (put_node (put_node (put_is_read b r end) (literal (zero_of ty)))) last) (ap next_node second)

pub left_built : {E : Type 0} → (result : Result Read E) (b one new : Built) (r : ArrayRead) (ty : NumTy) (ws : PortWrites) (items : List PortWrite) (word taken : Read)
    → items ≡ ws.writes → Puts one taken (put_choices b r.address ty items word) (choices_read b r.address ty items word)
    → IfOk result (λ x. Puts new x (put_guard one r ty ws.end taken) (guard_read one r ty ws.end)) → IfOk result (λ x. Puts new x (put_left b r ty ws word) (left_read b r ty ws word))
unfolding put_left left_read
left_built result b one new r ty ws items word taken is x z =
    let first : one ≡ put_choices b r.address ty ws.writes word = x.all ∙ ap (λ (i : List PortWrite). put_choices b r.address ty i word) is in
    let read : taken ≡ choices_read b r.address ty ws.writes word = x.read ∙ ap (λ (i : List PortWrite). choices_read b r.address ty i word) is in
    puts_on result new (put_guard one r ty ws.end taken) (put_left b r ty ws word) (guard_read one r ty ws.end) (left_read b r ty ws word) z
    (ap (λ (c : Built). put_guard c r ty ws.end taken) first ∙ ap (put_guard (put_choices b r.address ty ws.writes word) r ty ws.end) read)
    (ap (λ (c : Built). guard_read c r ty ws.end) first)

-- of an array with these writes
pub taken_some : (b : Built) (is_new : Bool) (r : ArrayRead) (ty : NumTy) (o : Option PortWrites) (ws : PortWrites) (word : Read) → o ≡ Some ws → is_new ≡ true
    → (put_left b r ty ws word ≡ put_taken b is_new r ty o word) × (left_read b r ty ws word ≡ taken_read b is_new r ty o word)
unfolding put_taken taken_read
taken_some b is_new r ty o ws word e f = (rw (e, f) refl, rw (e, f) refl)

pub taken_old : (b : Built) (is_new : Bool) (r : ArrayRead) (ty : NumTy) (o : Option PortWrites) (word : Read) → is_new ≡ false
    → Puts b word (put_taken b is_new r ty o word) (taken_read b is_new r ty o word)
unfolding put_taken taken_read
taken_old b is_new r ty None word f = record { all = refl; read = refl }
taken_old b is_new r ty (Some ws) word f = record { all = rw f refl; read = rw f refl }

pub taken_none : (b : Built) (is_new : Bool) (r : ArrayRead) (ty : NumTy) (o : Option PortWrites) (word : Read) → o ≡ None
    → Puts b word (put_taken b is_new r ty o word) (taken_read b is_new r ty o word)
unfolding put_taken taken_read
taken_none b is_new r ty o word e = record { all = rw e refl; read = rw e refl }

module _ (all : List PortWrites) (b word_b taken_b : Built) (k : ℕ) (l : Leaf) (p : Pipe) (reading : Leaf) (word next : Read) (within : k < length b.leaves) (at : l ≡ get_or b.leaves k l)
    (is : reading ≡ reading_of l p.read) (first : Puts word_b word (put_leaf b reading) (next_leaf b))
    (then : Puts taken_b next (put_taken word_b p.is_new p.read (type_of_leaf l) (slice_get all p.read.array) word) (taken_read word_b p.is_new p.read (type_of_leaf l) (slice_get all p.read.array) word)) where
  there : slice_get b.leaves k ≡ Some l
  there = slice_get_read b.leaves (length b.leaves) k l refl within at

  longer : taken_b.leaves ≡ b.leaves ++ reading ∷ []
  longer =
      ap (λ (c : Built). c.leaves) then.all ∙ same_taken word_b p.is_new p.read (type_of_leaf l) (slice_get all p.read.array) word ∙ ap (λ (c : Built). c.leaves) first.all

  pub place_within : k < length taken_b.leaves
  place_within = rw (longer, length-append b.leaves (reading ∷ [])) (omega (arith, within))

  pub pipe_built : (found : Leaf) → found ≡ get_or taken_b.leaves k found
      → record { leaves = set taken_b.leaves k (register_of found p next); nodes = taken_b.nodes; entries = taken_b.entries } ≡ lower_pipe_at all b k (slice_get b.leaves k) p
  unfolding lower_pipe_at lower_pipe put_word
  pipe_built found place =
      let found_at : slice_get taken_b.leaves k ≡ Some found = slice_get_read taken_b.leaves (length taken_b.leaves) k found refl place_within place in
      let same : found ≡ l =
      same_Some found l (sym found_at ∙ ap (λ (ls : List Leaf). slice_get ls k) longer ∙ push_left b.leaves (reading ∷ []) k l there) in
      let start : word_b ≡ put_leaf b (reading_of l p.read) = first.all ∙ ap (put_leaf b) is in
      let out = put_leaf b (reading_of l p.read) in
      let ws = slice_get all p.read.array in
      let ty = type_of_leaf l in
      let state : taken_b ≡ put_taken out p.is_new p.read ty ws (next_leaf b) =
      then.all ∙ ap (λ (c : Built). put_taken c p.is_new p.read ty ws word) start ∙ ap (put_taken out p.is_new p.read ty ws) first.read in
      let reads : next ≡ taken_read out p.is_new p.read ty ws (next_leaf b) =
      then.read ∙ ap (λ (c : Built). taken_read c p.is_new p.read ty ws word) start ∙ ap (taken_read out p.is_new p.read ty ws) first.read in
      rw there
      (ap (λ (c : Built). set_leaf c k (register_of found p next)) state ∙ ap (λ (x : Leaf). set_leaf (put_taken out p.is_new p.read ty ws (next_leaf b)) k (register_of x p next)) same
      ∙ ap (λ (r : Read). set_leaf (put_taken out p.is_new p.read ty ws (next_leaf b)) k (register_of l p r)) reads)

pub ok_on : {E : Type 0} → (result : Result (Unit {0}) E) (x y z : Built) → OnOk result (x ≡ y) → y ≡ z → OnOk result (x ≡ z)
ok_on (Ok u) x y z h e = h ∙ e
ok_on (Err u) x y z h e = h

pub leaf_pipe : (all : List PortWrites) (b : Built) (k : ℕ) (l : Leaf) (p : Pipe) → k < length b.leaves → l ≡ get_or b.leaves k l → l.role ≡ role.Pipe p
    → lower_pipe_at all b k (slice_get b.leaves k) p ≡ lower_leaf all b k (slice_get b.leaves k)
unfolding lower_leaf lower_pipe_at lower_role
leaf_pipe all b k l p within at is =
    let there : slice_get b.leaves k ≡ Some l = slice_get_read b.leaves (length b.leaves) k l refl within at in
    rw there (sym (ap (lower_role all b k l) is))

other_role : (all : List PortWrites) (b : Built) (k : ℕ) (l : Leaf) (r : Role) → ((p : Pipe) → r ≡ role.Pipe p → ⊥) → b ≡ lower_role all b k l r
unfolding lower_role
other_role all b k l (role.Pipe p) h = absurd (h p refl)
other_role all b k l role.Input h = refl
other_role all b k l role.Clock h = refl
other_role all b k l (role.Output r) h = refl
other_role all b k l (role.Wire r) h = refl
other_role all b k l (role.Register r) h = refl
other_role all b k l (role.Reading r) h = refl
other_role all b k l (role.ClockOutput r) h = refl
other_role all b k l (role.ClockWire r) h = refl

pub leaf_other : (all : List PortWrites) (b : Built) (k : ℕ) (l : Leaf) → k < length b.leaves → l ≡ get_or b.leaves k l → ((p : Pipe) → l.role ≡ role.Pipe p → ⊥)
    → b ≡ lower_leaf all b k (slice_get b.leaves k)
unfolding lower_leaf
leaf_other all b k l within at none =
    let there : slice_get b.leaves k ≡ Some l = slice_get_read b.leaves (length b.leaves) k l refl within at in
    rw there (other_role all b k l l.role none)

pub turn : (all : List PortWrites) (b now new : Built) (n : ℕ) → now ≡ lower_first all b n → new ≡ lower_leaf all now n (slice_get now.leaves n) → new ≡ lower_first all b (n + 1)
turn all b now new n is e = e ∙ ap (λ (c : Built). lower_leaf all c n (slice_get c.leaves n)) is ∙ sym (first_more all b n)

pub turn_within : (all : List PortWrites) (b now : Built) (n : ℕ) → now ≡ lower_first all b n → n < length b.leaves → n < length now.leaves
turn_within all b now n is h = rw is (omega (arith, h, (keeps_first all b n).longer))

pub turn_narrow : (all : List PortWrites) (b now : Built) (n : ℕ) → now ≡ lower_first all b n → NarrowLeaves b.leaves → NarrowLeaves now.leaves
turn_narrow all b now n is h = rw is ((keeps_first all b n).narrow h)

pub keeps_leaf_others : (all : List PortWrites) (b : Built) (k j : ℕ) (l : Leaf) → (j ≡ k → ⊥) → slice_get b.leaves j ≡ Some l → slice_get (lower_leaf all b k (slice_get b.leaves k)).leaves j ≡ Some l
keeps_leaf_others all b k j l differs e = (keeps_leaf all b k (slice_get b.leaves k) refl).others j l differs e

pub taken_of : {E : Type 0} → (result : Result Read E) (b new : Built) (is_new : Bool) (r : ArrayRead) (ty : NumTy) (all : List PortWrites) (ws : PortWrites) (word : Read) → is_new ≡ true → r.array < length all
    → ws ≡ get_or all r.array ws → IfOk result (λ x. Puts new x (put_left b r ty ws word) (left_read b r ty ws word))
    → IfOk result (λ x. Puts new x (put_taken b is_new r ty (slice_get all r.array) word) (taken_read b is_new r ty (slice_get all r.array) word))
taken_of result b new is_new r ty all ws word f low at h =
    let both = taken_some b is_new r ty (slice_get all r.array) ws word (slice_get_read all (length all) r.array ws refl low at) f in
    puts_on result new (put_left b r ty ws word) (put_taken b is_new r ty (slice_get all r.array) word) (left_read b r ty ws word) (taken_read b is_new r ty (slice_get all r.array) word) h both.0 both.1

pub taken_past : (b : Built) (is_new : Bool) (r : ArrayRead) (ty : NumTy) (all : List PortWrites) (word : Read) → length all ≤ r.array
    → Puts b word (put_taken b is_new r ty (slice_get all r.array) word) (taken_read b is_new r ty (slice_get all r.array) word)
taken_past b is_new r ty all word past = taken_none b is_new r ty (slice_get all r.array) word (slice_get_past all r.array past)
