-- The items of a tree, each behind those before it: they are sound there where they are in the whole tree, and the other way round.
use Rattle.std.proofs.Common.{◌≡◌, ℕ, ◌+◌, ◌≤◌, List, [], ◌∷◌, ◌++◌, map, flat_map, refl, sym, ap, ◌∙◌, inl, inr, ◌⊎◌, ⊎_elim, subst, append_assoc, arith}
use Rattle.std.specs.List.{AllByRecursion}
use Rattle.std.proofs.lemmas.List.{map-append}
use Rattle.std.proofs.lemmas.List.Sums.{sum_by-append}
use Rattle.fir_base.specs.Lists.{In, Distinct, EachIn}
use Rattle.fir_base.proofs.Each.{each_more}
use Rattle.fir_base.proofs.Members.{in_map, in_left, in_right, in_either, each_in}
use Rattle.fir_base.proofs.Twins.{distinct_left, apart}
use Rattle.ver_ast.specs.declared.tree.Verilog.{Verilog}
use Rattle.ver_ast.specs.declared.tree.Item.{Item}
use Rattle.ver_ast.specs.declared.tree.Item.TheVariants as item
use Rattle.ver_ast.specs.ItemNames.{declared, item_names}
use Rattle.ver_ast.specs.Nets.{Variable, plain_block, resetting_block, writing_block, item_block, item_array, block_target, block_targets, arrays}
use Rattle.ver_ast.specs.Valid.{DeclaredBefore, IsSoundBlock}
use Rattle.ver_valid.specs.working.Declarations.{Entry, entries, entry_names, item_entries, port_entry, IsNarrowKind}
use Rattle.ver_valid.specs.working.Scopes.{IsFine}
use Rattle.ver_valid.specs.working.Walks.{AreNextItems, IsNextItem, IsNextAssign, IsFresh, assigned_names, written_names, item_target, item_written, words_of, with_items}
use Rattle.ver_valid.proofs.Entries.{flat_append}
use Rattle.ver_valid.proofs.Keeps.{Keeps, KeepsAll, kept_assign, kept_block}
use Rattle.ver_valid.proofs.KnownNames.{assign_known, block_known}
use Rattle.ver_valid.proofs.Steps.{entries_more}

-- an item is sound in a tree, whatever stands before it
abbrev pub IsSoundItem : Verilog → Item → Type 0
IsSoundItem v (item.Assign a) = IsNextAssign v a
IsSoundItem v (item.Always b) = IsSoundBlock v (plain_block b)
IsSoundItem v (item.Resetting b) = IsSoundBlock v (resetting_block b)
IsSoundItem v (item.Writing b) = IsSoundBlock v (writing_block b)
IsSoundItem v _ = Unit {0}

next_sound : (v : Verilog) (i : Item) → IsNextItem v i → IsSoundItem v i
next_sound v (item.Wire n) h = tt
next_sound v (item.Reg n) h = tt
next_sound v (item.Array a) h = tt
next_sound v (item.Assign a) h = h.0
next_sound v (item.Always b) h = h.0
next_sound v (item.Resetting b) h = h.0
next_sound v (item.Writing b) h = h.0

kept_item : (v u : Verilog) → IsFine u → (i : Item) → KeepsAll v u (item_names i) → IsSoundItem v i → IsSoundItem u i
kept_item v u fine (item.Wire n) k h = tt
kept_item v u fine (item.Reg n) k h = tt
kept_item v u fine (item.Array a) k h = tt
kept_item v u fine (item.Assign a) k h = kept_assign v u fine a k h
kept_item v u fine (item.Always b) k h = kept_block v u fine (plain_block b) k h
kept_item v u fine (item.Resetting b) k h = kept_block v u fine (resetting_block b) k h
kept_item v u fine (item.Writing b) k h = kept_block v u fine (writing_block b) k h

item_known : (v : Verilog) (i : Item) → IsSoundItem v i → EachIn (item_names i) (entry_names (entries v))
item_known v (item.Wire n) h = tt
item_known v (item.Reg n) h = tt
item_known v (item.Array a) h = tt
item_known v (item.Assign a) h = assign_known v a h
item_known v (item.Always b) h = block_known v (plain_block b) h
item_known v (item.Resetting b) h = block_known v (resetting_block b) h
item_known v (item.Writing b) h = block_known v (writing_block b) h

declared_names : (i : Item) → entry_names (item_entries i) ≡ declared i
declared_names (item.Wire n) = refl
declared_names _ = refl

entries_split : (w : Verilog) (is : List Item) → entries (with_items w is) ≡ entries w ++ flat_map item_entries is
entries_split w is =
    ap (λ es. map port_entry w.ports ++ es) (flat_append item_entries w.items is)
    ∙ sym (append_assoc (map port_entry w.ports) (flat_map item_entries w.items) (flat_map item_entries is))

one_more_item : (w : Verilog) (i : Item) (is : List Item) → with_items (with_items w (i ∷ [])) is ≡ with_items w (i ∷ is)
one_more_item w i is = ap (λ (xs : List Item). record w { items = xs }) (append_assoc w.items (i ∷ []) is)

module _ (w : Verilog) (is : List Item) (fine : IsFine (with_items w is)) where
  split_names : entry_names (entries (with_items w is)) ≡ entry_names (entries w) ++ entry_names (flat_map item_entries is)
  split_names = ap entry_names (entries_split w is) ∙ map-append (λ (e : Entry). e.0) (entries w) (flat_map item_entries is)

  all_once : Distinct (entry_names (entries w) ++ entry_names (flat_map item_entries is))
  all_once = subst Distinct split_names fine.once

  pub fine_before : IsFine w
  fine_before = record {
    once = distinct_left (entry_names (entries w)) (entry_names (flat_map item_entries is)) all_once;
    narrow = λ e m. fine.narrow e (subst (λ es. In es e) (sym (entries_split w is)) (in_left (entries w) (flat_map item_entries is) e m));
  }

  keeps_ahead : (n : List ℕ) → Keeps w (with_items w is) n
  keeps_ahead n d m = subst (λ es. In es (n, d)) (sym (entries_split w is)) (in_left (entries w) (flat_map item_entries is) (n, d) m)

  keeps_back : (n : List ℕ) → In (entry_names (entries w)) n → Keeps (with_items w is) w n
  keeps_back n known d m =
      ⊎_elim
      (λ (i : In (entries w) (n, d)). i)
      (λ (i : In (flat_map item_entries is) (n, d)).
      absurd (apart (entry_names (entries w)) (entry_names (flat_map item_entries is)) all_once n known (in_map (λ (e : Entry). e.0) (flat_map item_entries is) (n, d) i)))
      (in_either (entries w) (flat_map item_entries is) (n, d) (subst (λ es. In es (n, d)) (entries_split w is) m))

  pub later_fresh : (n : List ℕ) → In (entry_names (flat_map item_entries is)) n → IsFresh w n
  later_fresh n m k = apart (entry_names (entries w)) (entry_names (flat_map item_entries is)) all_once n k m

  pub later_narrow : (e : Entry) → In (flat_map item_entries is) e → IsNarrowKind e.1
  later_narrow e m = fine.narrow e (subst (λ es. In es e) (sym (entries_split w is)) (in_right (entries w) (flat_map item_entries is) e m))

known_more : (w : Verilog) (i : Item) (n : List ℕ) → In (entry_names (entries (with_items w (i ∷ [])))) n → In (entry_names (entries w)) n ⊎ In (declared i) n
known_more w i n m =
    let names : entry_names (entries (with_items w (i ∷ []))) ≡ entry_names (entries w) ++ declared i =
    ap entry_names (entries_more w i) ∙ map-append (λ (e : Entry). e.0) (entries w) (item_entries i)
    ∙ ap (λ ns. entry_names (entries w) ++ ns) (declared_names i) in
    in_either (entry_names (entries w)) (declared i) n (subst (λ ns. In ns n) names m)

more_known : (w : Verilog) (i : Item) (n : List ℕ) → In (entry_names (entries w)) n ⊎ In (declared i) n → In (entry_names (entries (with_items w (i ∷ [])))) n
more_known w i n m =
    let names : entry_names (entries (with_items w (i ∷ []))) ≡ entry_names (entries w) ++ declared i =
    ap entry_names (entries_more w i) ∙ map-append (λ (e : Entry). e.0) (entries w) (item_entries i)
    ∙ ap (λ ns. entry_names (entries w) ++ ns) (declared_names i) in
    subst (λ ns. In ns n) (sym names)
    (⊎_elim
    (λ (j : In (entry_names (entries w)) n). in_left (entry_names (entries w)) (declared i) n j)
    (λ (j : In (declared i) n). in_right (entry_names (entries w)) (declared i) n j) m)

-- from the walk: each names what is declared before it, and is sound in the whole
pub walked_items : (w : Verilog) (is : List Item) (known : List (List ℕ)) → ((n : List ℕ) → In (entry_names (entries w)) n → In known n)
    → IsFine (with_items w is) → AreNextItems w is → DeclaredBefore known is × AllByRecursion (IsSoundItem (with_items w is)) is
walked_items w [] known sub fine h = (tt, tt)
walked_items w (i ∷ is) known sub fine h =
    let v = with_items w (i ∷ is) in
    let here = next_sound w i h.0 in
    let names = item_known w i here in
    let same = one_more_item w i is in
    let rest = walked_items (with_items w (i ∷ [])) is (declared i ++ known)
    (λ n m. ⊎_elim
    (λ (j : In (entry_names (entries w)) n). in_right (declared i) known n (sub n j))
    (λ (j : In (declared i) n). in_left (declared i) known n j) (known_more w i n m))
    (subst IsFine (sym same) fine) h.1 in (
      (each_more (item_names i) (entry_names (entries w)) known sub names, rest.0),
      (
        kept_item w v fine i (record { each = λ n m. keeps_ahead w (i ∷ is) fine n }) here,
        subst (λ (t : Verilog). AllByRecursion (IsSoundItem t) is) same rest.1,
      ),
    )

-- what a part of a list gives is none of what the parts before give
apart_from : {A : Type 0} → (f : Item → List A) (before : List Item) (i : Item) (is : List Item) → Distinct (flat_map f (before ++ i ∷ is))
    → (x : A) → In (f i) x → In (flat_map f before) x → ⊥
apart_from f before i is d x m n =
    let whole = subst Distinct (flat_append f before (i ∷ is)) d in
    apart (flat_map f before) (f i ++ flat_map f is) whole x n (in_left (f i) (flat_map f is) x m)

-- what all items write, item by item
written_by_item : (is : List Item) → block_targets (flat_map item_block is) ≡ flat_map item_written is
written_by_item [] = refl
written_by_item (i ∷ is) = flat_append block_target (item_block i) (flat_map item_block is) ∙ ap (λ ns. item_written i ++ ns) (written_by_item is)

module _ (w : Verilog) (i : Item) (is : List Item) (fine : IsFine (with_items w (i ∷ is))) (few : words_of (arrays (with_items w (i ∷ is))) ≤ 4194304)
    (assigned : Distinct (assigned_names (with_items w (i ∷ is)))) (written : Distinct (written_names (with_items w (i ∷ is)))) where
  first_entry : (e : Entry) → In (item_entries i) e → In (flat_map item_entries (i ∷ is)) e
  first_entry e m = in_left (item_entries i) (flat_map item_entries is) e m

  fresh_here : (n : List ℕ) → In (entry_names (item_entries i)) n → IsFresh w n
  fresh_here n m =
      later_fresh w (i ∷ is) fine n
      (subst (λ ns. In ns n) (sym (map-append (λ (e : Entry). e.0) (item_entries i) (flat_map item_entries is)))
      (in_left (entry_names (item_entries i)) (entry_names (flat_map item_entries is)) n m))

  narrow_here : (e : Entry) → In (item_entries i) e → IsNarrowKind e.1
  narrow_here e m = later_narrow w (i ∷ is) fine e (first_entry e m)

  room_here : words_of (arrays w) + words_of (item_array i) ≤ 4194304
  room_here =
      let depth = λ (k : Variable). k.depth in
      let all : words_of (arrays (with_items w (i ∷ is))) ≡ words_of (arrays w) + words_of (item_array i ++ flat_map item_array is) =
      ap words_of (flat_append item_array w.items (i ∷ is)) ∙ sum_by-append depth (arrays w) (item_array i ++ flat_map item_array is) in
      let part = sum_by-append depth (item_array i) (flat_map item_array is) in
      omega arith

  not_assigned : (n : List ℕ) → In (item_target i) n → In (assigned_names w) n → ⊥
  not_assigned n m k = apart_from item_target w.items i is assigned n m k

  not_written : (n : List ℕ) → In (item_written i) n → In (written_names w) n → ⊥
  not_written n m k =
      apart_from item_written w.items i is (subst Distinct (written_by_item (w.items ++ i ∷ is)) written) n m
      (subst (λ ns. In ns n) (written_by_item w.items) k)

-- the step, for each kind of item
next_item : (w : Verilog) (i : Item) (is : List Item) → IsFine (with_items w (i ∷ is)) → words_of (arrays (with_items w (i ∷ is))) ≤ 4194304
    → Distinct (assigned_names (with_items w (i ∷ is))) → Distinct (written_names (with_items w (i ∷ is))) → IsSoundItem w i → IsNextItem w i
next_item w (item.Wire n) is fine few assigned written h =
    let i = item.Wire n in
    (fresh_here w i is fine few assigned written n.name (inl refl), narrow_here w i is fine few assigned written _ (inl refl))
next_item w (item.Reg n) is fine few assigned written h =
    let i = item.Reg n in
    (fresh_here w i is fine few assigned written n.name (inl refl), narrow_here w i is fine few assigned written _ (inl refl))
next_item w (item.Array a) is fine few assigned written h =
    let i = item.Array a in
    let room = room_here w i is fine few assigned written in
    let own : words_of (item_array i) ≡ 0 + (a.last + 1) = refl in
    ((fresh_here w i is fine few assigned written a.name (inl refl), narrow_here w i is fine few assigned written _ (inl refl)), omega arith)
next_item w (item.Assign a) is fine few assigned written h = (h, λ m. not_assigned w (item.Assign a) is fine few assigned written a.target (inl refl) m)
next_item w (item.Always b) is fine few assigned written h = (h, λ n m k. not_written w (item.Always b) is fine few assigned written n (in_left (block_target (plain_block b)) [] n m) k)
next_item w (item.Resetting b) is fine few assigned written h =
    (h, λ n m k. not_written w (item.Resetting b) is fine few assigned written n (in_left (block_target (resetting_block b)) [] n m) k)
next_item w (item.Writing b) is fine few assigned written h =
    (h, λ n m k. not_written w (item.Writing b) is fine few assigned written n (in_left (block_target (writing_block b)) [] n m) k)

-- from the whole: each is sound behind those before it
pub items_walked : (w : Verilog) (is : List Item) (known : List (List ℕ)) → ((n : List ℕ) → In known n → In (entry_names (entries w)) n)
    → IsFine (with_items w is) → words_of (arrays (with_items w is)) ≤ 4194304 → Distinct (assigned_names (with_items w is))
    → Distinct (written_names (with_items w is)) → DeclaredBefore known is → AllByRecursion (IsSoundItem (with_items w is)) is → AreNextItems w is
items_walked w [] known sup fine few assigned written before h = tt
items_walked w (i ∷ is) known sup fine few assigned written before h =
    let v = with_items w (i ∷ is) in
    let same = one_more_item w i is in
    let names = each_in (item_names i) known before.0 in
    let here = kept_item v w (fine_before w (i ∷ is) fine) i (record { each = λ n m. keeps_back w (i ∷ is) fine n (sup n (names n m)) }) h.0 in (
      next_item w i is fine few assigned written here,
      items_walked (with_items w (i ∷ [])) is (declared i ++ known)
          (λ n m. more_known w i n (⊎_elim
          (λ (j : In (declared i) n). inr j)
          (λ (j : In known n). inl (sup n j)) (in_either (declared i) known n m)))
          (subst IsFine (sym same) fine) (subst (λ (t : Verilog). words_of (arrays t) ≤ 4194304) (sym same) few)
          (subst (λ (t : Verilog). Distinct (assigned_names t)) (sym same) assigned)
          (subst (λ (t : Verilog). Distinct (written_names t)) (sym same) written)
          before.1 (subst (λ (t : Verilog). AllByRecursion (IsSoundItem t) is) (sym same) h.1),
    )
