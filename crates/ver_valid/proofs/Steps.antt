-- What the walk knows behind one port or item more.
use Rattle.std.proofs.Common.{◌≡◌, ℕ, ◌+◌, ◌<◌, ◌≤◌, List, [], ◌∷◌, ◌++◌, map, flat_map, length, take, drop, get_or, refl, sym, ap, ◌∙◌, subst, append_assoc, append-nil, add-one, add-zero, inl, ⊎_elim, slice_get, Some, arith}
use Rattle.std.specs.Prelude.{Result, Ok, Err, OnOk, ◌↔◌}
use Rattle.std.specs.Result.{IsErrAnd}
use Rattle.std.proofs.lemmas.Result.{err_from_is_err_and}
use Rattle.std.proofs.lemmas.List.{map-append, take_all}
use Rattle.std.proofs.lemmas.List.Sums.{sum_by-append}
use Rattle.std.proofs.Math.Seq.{drop-cons, take-suc}
use Rattle.std.proofs.Math.ListN.{drop_of_length-le}
use Rattle.fir_base.specs.Lists.{In}
use Rattle.fir_base.specs.declared.refused.Refused.{Refused}
use Rattle.ver_ast.specs.declared.tree.Verilog.{Verilog}
use Rattle.ver_ast.specs.declared.tree.Port.{Port}
use Rattle.ver_ast.specs.declared.tree.Item.{Item}
use Rattle.ver_ast.specs.Nets.{AlwaysBlock, Variable, item_block, item_array, block_target, block_targets, blocks, first_array, arrays}
use Rattle.ver_ast.specs.declared.tree.Write.{Write}
use Rattle.ver_ast.specs.Valid.{IsSoundBlock}
use Rattle.ver_valid.specs.declared.driven.Driven.{Driven}
use Rattle.ver_valid.specs.declared.misfit.Misfit.{Misfit}
use Rattle.ver_valid.specs.declared.walk.Walk.{Walk}
use Rattle.ver_valid.specs.working.Judgement.{Denies, Judges}
use Rattle.ver_valid.specs.working.Declarations.{Entry, entries, port_entry, item_entries}
use Rattle.ver_valid.specs.working.Scopes.{TellsOf}
use Rattle.ver_valid.specs.working.Driven.{Drives}
use Rattle.ver_valid.specs.working.Walks.{AreNextItems, AreNextPorts, IsNextBlock, IsNextItem, IsNextPort, Reflects, Steps, assigned_names, written_names, item_target, item_written, words_of, with_items, with_ports}
use Rattle.ver_valid.proofs.Entries.{flat_append}
use Rattle.ver_valid.proofs.Judging.{denied_more, judged_same}

flat_more : {X A : Type 0} → (f : X → List A) (xs : List X) (x : X) → flat_map f (xs ++ x ∷ []) ≡ flat_map f xs ++ f x
flat_more f xs x = flat_append f xs (x ∷ []) ∙ ap (λ ys. flat_map f xs ++ ys) (append-nil (f x))

module _ (v : Verilog) (i : Item) where
  pub entries_more : entries (with_items v (i ∷ [])) ≡ entries v ++ item_entries i
  entries_more =
      ap (λ es. map port_entry v.ports ++ es) (flat_more item_entries v.items i)
      ∙ sym (append_assoc (map port_entry v.ports) (flat_map item_entries v.items) (item_entries i))

  pub assigned_more : assigned_names (with_items v (i ∷ [])) ≡ assigned_names v ++ item_target i
  assigned_more = flat_more item_target v.items i

  pub blocks_more : blocks (with_items v (i ∷ [])) ≡ blocks v ++ item_block i
  blocks_more = flat_more item_block v.items i

  pub written_more : written_names (with_items v (i ∷ [])) ≡ written_names v ++ item_written i
  written_more = ap block_targets blocks_more ∙ flat_append block_target (blocks v) (item_block i)

  pub arrays_more : arrays (with_items v (i ∷ [])) ≡ arrays v ++ item_array i
  arrays_more = flat_more item_array v.items i

module _ (old new : Walk) (v : Verilog) (i : Item) where
  pub reflects_item : Reflects old v → TellsOf new.scope (entries v ++ item_entries i) → Drives new.assigned (assigned_names v ++ item_target i)
      → Drives new.written (written_names v ++ item_written i) → new.room + words_of (item_array i) ≡ old.room → Reflects new (with_items v (i ∷ []))
  reflects_item r scope assigned written room = record {
    tells = subst (TellsOf new.scope) (sym (entries_more v i)) scope;
    assigned = subst (Drives new.assigned) (sym (assigned_more v i)) assigned;
    written = subst (Drives new.written) (sym (written_more v i)) written;
    room =
        let words : words_of (arrays (with_items v (i ∷ []))) ≡ words_of (arrays v) + words_of (item_array i) =
        ap words_of (arrays_more v i) ∙ sum_by-append (λ (k : Variable). k.depth) (arrays v) (item_array i) in
        let before = r.room in
        omega arith;
  }

pub none_more : {A : Type 0} (P : List A → Type 0) (xs : List A) → P xs → P (xs ++ [])
none_more P xs h = subst P (sym (append-nil xs)) h

-- a port of a tree without items
pub reflects_port : (old new : Walk) (v : Verilog) (p : Port) → v.items ≡ [] → Reflects old v → TellsOf new.scope (entries v ++ port_entry p ∷ [])
    → new.assigned ≡ old.assigned → new.written ≡ old.written → new.room ≡ old.room → Reflects new (with_ports v (p ∷ []))
reflects_port old new v p none r scope assigned written room =
    let front : entries (with_ports v (p ∷ [])) ≡ entries v ++ port_entry p ∷ [] =
    ap (λ is. map port_entry (v.ports ++ p ∷ []) ++ flat_map item_entries is) none ∙ append-nil (map port_entry (v.ports ++ p ∷ []))
    ∙ map-append port_entry v.ports (p ∷ [])
    ∙ ap (λ es. es ++ port_entry p ∷ []) (sym (ap (λ is. map port_entry v.ports ++ flat_map item_entries is) none ∙ append-nil (map port_entry v.ports))) in
    record {
      tells = subst (TellsOf new.scope) (sym front) scope;
      assigned = subst (λ (d : Driven). Drives d (assigned_names v)) (sym assigned) r.assigned;
      written = subst (λ (d : Driven). Drives d (written_names v)) (sym written) r.written;
      room = ap (λ x. x + words_of (arrays v)) room ∙ r.room;
    }

-- steps of the walk
pub steps_same : (r : Result Unit (Refused Misfit)) (P P' Q Q' : Type 0) → (P → P') → (P' → P) → (Q → Q') → Steps r P Q → Steps r P' Q'
steps_same (Ok x) P P' Q Q' to back more h = (to h.0, more h.1)
steps_same (Err e) P P' Q Q' to back more h = denied_more e P P' back h

pub steps_err : (r : Result Unit (Refused Misfit)) (e : Refused Misfit) (P Q : Type 0) → IsErrAnd r (λ x. x ≡ e) → Denies e P → Steps r P Q
steps_err r e P Q h d = let p = err_from_is_err_and r h in rw (p.1, p.2) d

pub steps_judged : (r : Result Unit (Refused Misfit)) (P P' Q : Type 0) → (P → P') → (P' → P) → Judges r P → OnOk r Q → Steps r P' Q
steps_judged (Ok x) P P' Q to back h q = (to h, q)
steps_judged (Err e) P P' Q to back h q = denied_more e P P' back h

pub if_ok : (r : Result Unit (Refused Misfit)) (P Q : Type 0) → (P → Q) → OnOk r P → OnOk r Q
if_ok (Ok x) P Q to h = to h
if_ok (Err e) P Q to h = tt

pub steps_declared : (r : Result Unit (Refused Misfit)) (P N X Q : Type 0) → N → Judges r P → (X → Q) → OnOk r X → Steps r (P × N) Q
steps_declared (Ok x) P N X Q n h more q = ((h, n), more q)
steps_declared (Err e) P N X Q n h more q = denied_more e P (P × N) (λ b. b.0) h

pub steps_driven : (r : Result Unit (Refused Misfit)) (P F X Q : Type 0) → P → Judges r F → (X → Q) → OnOk r X → Steps r (P × F) Q
steps_driven (Ok x) P F X Q p h more q = ((p, h), more q)
steps_driven (Err e) P F X Q p h more q = denied_more e F (P × F) (λ b. b.1) h

pub first_is : (ws : List Write) (x : Write) → Some x ≡ slice_get ws 0 → first_array ws ≡ x.array ∷ []
first_is [] x e = absurd (cc)
first_is (w ∷ ws) x e = let same : x ≡ w = cc in ap (λ (y : Write). y.array ∷ []) (sym same)

-- what a block writes is driven with the block
pub block_step : (old : Walk) (written : Driven) (v : Verilog) (i : Item) (b : AlwaysBlock) (n : List ℕ) (r : Result Unit (Refused Misfit)) → Reflects old v
    → item_entries i ≡ [] → item_target i ≡ [] → item_block i ≡ b ∷ [] → item_array i ≡ [] → block_target b ≡ n ∷ [] → IsSoundBlock v b
    → Judges r (In (written_names v) n → ⊥) → OnOk r ((ns : List (List ℕ)) → Drives old.written ns → Drives written (ns ++ n ∷ []))
    → Steps r (IsNextBlock v b) (Reflects (record old { written = written }) (with_items v (i ∷ [])))
block_step old written v i b n r known entry target block array own sound fresh driven =
    let new = record old { written = written } in
    let writes : item_written i ≡ n ∷ [] = ap block_targets block ∙ append-nil (block_target b) ∙ own in
    steps_driven r (IsSoundBlock v b) ((m : List ℕ) → In (block_target b) m → In (written_names v) m → ⊥)
    ((ns : List (List ℕ)) → Drives old.written ns → Drives written (ns ++ n ∷ [])) (Reflects new (with_items v (i ∷ []))) sound
    (judged_same r (In (written_names v) n → ⊥) ((m : List ℕ) → In (block_target b) m → In (written_names v) m → ⊥)
    (λ h m j k. ⊎_elim (λ (e : n ≡ m). h (subst (In (written_names v)) (sym e) k)) (λ (o : ⊥). o) (subst (λ (ns : List (List ℕ)). In ns m) own j))
    (λ h k. h n (subst (λ (ns : List (List ℕ)). In ns n) (sym own) (inl refl)) k) fresh)
    (λ more. reflects_item old new v i known
    (subst (λ (es : List Entry). TellsOf old.scope (entries v ++ es)) (sym entry) (none_more (TellsOf old.scope) (entries v) known.tells))
    (subst (λ (ns : List (List ℕ)). Drives old.assigned (assigned_names v ++ ns)) (sym target) (none_more (Drives old.assigned) (assigned_names v) known.assigned))
    (subst (λ (ns : List (List ℕ)). Drives written (written_names v ++ ns)) (sym writes) (more (written_names v) known.written))
    (ap (λ ks. old.room + words_of ks) array ∙ add-zero old.room))
    driven

-- in the midst of the ports: the walk knows those before, and all are sound where the rest is
pub record AmidPorts (walk : Walk) (v : Verilog) (ps : List Port) (k : ℕ) : Type 0 where
  pub known : Reflects walk (with_ports v (take k ps))
  pub same : AreNextPorts (with_ports v (take k ps)) (drop k ps) ↔ AreNextPorts v ps

pub record AmidItems (walk : Walk) (v : Verilog) (is : List Item) (k : ℕ) : Type 0 where
  pub known : Reflects walk (with_items v (take k is))
  pub same : AreNextItems (with_items v (take k is)) (drop k is) ↔ AreNextItems v is

front_more : {A : Type 0} (before xs : List A) (k : ℕ) (x : A) → k < length xs → x ≡ get_or xs k x → before ++ take (k + 1) xs ≡ (before ++ take k xs) ++ x ∷ []
front_more before xs k x within is =
    let one : take (k + 1) xs ≡ take k xs ++ x ∷ [] = rw add-one (take-suc xs k x within ∙ ap (λ y. take k xs ++ y ∷ []) (sym is)) in
    ap (λ ys. before ++ ys) one ∙ sym (append_assoc before (take k xs) (x ∷ []))

back_one : {A : Type 0} (xs : List A) (k : ℕ) (x : A) → k < length xs → x ≡ get_or xs k x → drop k xs ≡ x ∷ drop (k + 1) xs
back_one xs k x within is = drop-cons xs k x within ∙ rw (sym is, add-one) refl

module _ (old new : Walk) (v : Verilog) (ps : List Port) (k : ℕ) (amid : AmidPorts old v ps k) where
  module _ (p : Port) (within : k < length ps) (is : p ≡ get_or ps k p) where
    abbrev port_tree : Verilog
    port_tree = with_ports v (take k ps)

    pub port_next : AreNextPorts v ps → IsNextPort port_tree p
    port_next all = (subst (AreNextPorts port_tree) (back_one ps k p within is) (amid.same.1 all)).0

    more_ports : with_ports v (take (k + 1) ps) ≡ with_ports port_tree (p ∷ [])
    more_ports = ap (λ (xs : List Port). record v { ports = xs }) (front_more v.ports ps k p within is)

    pub port_more : IsNextPort port_tree p → Reflects new (with_ports port_tree (p ∷ [])) → AmidPorts new v ps (k + 1)
    port_more next known = record {
      known = subst (Reflects new) (sym more_ports) known;
      same = (
        λ rest. amid.same.0 (subst (AreNextPorts port_tree) (sym (back_one ps k p within is))
            (next, subst (λ (t : Verilog). AreNextPorts t (drop (k + 1) ps)) more_ports rest)),
        λ all. subst (λ (t : Verilog). AreNextPorts t (drop (k + 1) ps)) (sym more_ports)
            (subst (AreNextPorts port_tree) (back_one ps k p within is) (amid.same.1 all)).1,
      );
    }

  pub ports_done : length ps ≤ k → AreNextPorts v ps × Reflects old (with_ports v ps)
  ports_done past = (
    amid.same.0 (subst (AreNextPorts (with_ports v (take k ps))) (sym (drop_of_length-le ps past)) tt),
    subst (λ (xs : List Port). Reflects old (with_ports v xs)) (take_all k ps past) amid.known,
  )

module _ (old new : Walk) (v : Verilog) (is : List Item) (k : ℕ) (amid : AmidItems old v is k) where
  module _ (i : Item) (within : k < length is) (at : i ≡ get_or is k i) where
    abbrev item_tree : Verilog
    item_tree = with_items v (take k is)

    pub item_next : AreNextItems v is → IsNextItem item_tree i
    item_next all = (subst (AreNextItems item_tree) (back_one is k i within at) (amid.same.1 all)).0

    more_items : with_items v (take (k + 1) is) ≡ with_items item_tree (i ∷ [])
    more_items = ap (λ (xs : List Item). record v { items = xs }) (front_more v.items is k i within at)

    pub item_more : IsNextItem item_tree i → Reflects new (with_items item_tree (i ∷ [])) → AmidItems new v is (k + 1)
    item_more next known = record {
      known = subst (Reflects new) (sym more_items) known;
      same = (
        λ rest. amid.same.0 (subst (AreNextItems item_tree) (sym (back_one is k i within at))
            (next, subst (λ (t : Verilog). AreNextItems t (drop (k + 1) is)) more_items rest)),
        λ all. subst (λ (t : Verilog). AreNextItems t (drop (k + 1) is)) (sym more_items)
            (subst (AreNextItems item_tree) (back_one is k i within at) (amid.same.1 all)).1,
      );
    }

  pub items_done : length is ≤ k → AreNextItems v is × Reflects old (with_items v is)
  items_done past = (
    amid.same.0 (subst (AreNextItems (with_items v (take k is))) (sym (drop_of_length-le is past)) tt),
    subst (λ (xs : List Item). Reflects old (with_items v xs)) (take_all k is past) amid.known,
  )

pub amid_first_port : (walk : Walk) (v : Verilog) (ps : List Port) → Reflects walk v → AmidPorts walk v ps 0
amid_first_port walk v ps r = record {
  known = subst (λ (xs : List Port). Reflects walk (record v { ports = xs })) (sym (append-nil v.ports)) r;
  same =
      let none : with_ports v [] ≡ v = ap (λ (xs : List Port). record v { ports = xs }) (append-nil v.ports) in
      (λ h. subst (λ (t : Verilog). AreNextPorts t ps) none h, λ h. subst (λ (t : Verilog). AreNextPorts t ps) (sym none) h);
}

pub amid_first_item : (walk : Walk) (v : Verilog) (is : List Item) → Reflects walk v → AmidItems walk v is 0
amid_first_item walk v is r = record {
  known = subst (λ (xs : List Item). Reflects walk (record v { items = xs })) (sym (append-nil v.items)) r;
  same =
      let none : with_items v [] ≡ v = ap (λ (xs : List Item). record v { items = xs }) (append-nil v.items) in
      (λ h. subst (λ (t : Verilog). AreNextItems t is) none h, λ h. subst (λ (t : Verilog). AreNextItems t is) (sym none) h);
}
