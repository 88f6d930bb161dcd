-- Copies of nodes stand for the same terms as the nodes, and are nodes with their types where what the roles read is whole.
use Rattle.std.proofs.Common.{◌≡◌, ℕ, suc, ◌+◌, ◌<◌, List, [], ◌∷◌, ◌++◌, length, Some, Bool, true, false, refl, ap, sym, ◌∙◌, subst, arith, ◌⊎◌, inl, inr, length-append}
use Rattle.std.specs.Prelude.{Option, slice_get}
use Rattle.std.proofs.lemmas.Bool.{cases_eq}
use Rattle.std.proofs.lemmas.List.{length-map}
use Rattle.fir_base.proofs.Elements.{get_left}
use Rattle.fir_base.proofs.Writes.{push_end}
use Rattle.fir_meaning.specs.LeafTypes.{LeafType}
use Rattle.fir_connect.specs.working.NetTerms.{NetTerm, operation, term}
use Rattle.fir_net.specs.declared.leaf.Leaf.{Leaf}
use Rattle.fir_net.specs.declared.node.Node.{Node}
use Rattle.fir_net.specs.declared.node.Node.TheVariants as node
use Rattle.fir_net.specs.declared.reads.Read.{Read}
use Rattle.fir_net.specs.declared.reads.Read.TheVariants as read
use Rattle.fir_net.specs.working.Dependence.{support_of}
use Rattle.fir_merge.specs.working.NodeTerms.{AreBelow, Grows, IsBelow, ReadBefore, Stands, chosen_term, node_term, read_term, read_terms, terms}
use Rattle.fir_merge.proofs.GrownTerms.{below_later, grown_keeps, grows_none, node_there, same_node, same_read}
use Rattle.fir_flat.specs.working.WholeTerms.{IsWhole}
use Rattle.fir_whens.specs.declared.net_role.NetRole.{NetRole}
use Rattle.fir_flatten.specs.declared.kept_nodes.KeptNodes.{KeptNodes}
use Rattle.fir_flatten.specs.working.KeptNodes.{AreMarked, AreNeeded, EachRead, HasForm, IsMarked, Keeps, LeavesHold, ReadWhole, StaysThere, moved, moved_all, moved_node, place_or, role_reads}
use Rattle.fir_flatten.proofs.NeededMarks.{reads_below}
use Rattle.fir_flatten.proofs.TypedNodes.{AreTyped, typed_push}

-- one more node that reads nodes before it
before_push : (count : ℕ) (ns : List Node) (n : Node) → ReadBefore count ns → AreBelow (count + length ns) (support_of n) → ReadBefore count (ns ++ n ∷ [])
before_push count [] n before below = (subst (λ (k : ℕ). AreBelow k (support_of n)) (omega arith) below, tt)
before_push count (m ∷ ns) n before below =
    (before.0, before_push (suc count) ns n before.1 (subst (λ (k : ℕ). AreBelow k (support_of n)) (omega arith) below))

-- what a copy reads, and its form
moved_support : (places : List ℕ) (n : Node) → support_of (moved_node places n) ≡ moved_all places (support_of n)
moved_support places (node.Literal v) = refl
moved_support places (node.Operation o) = refl
moved_support places (node.Mux m) = refl

moved_form : (places : List ℕ) (n : Node) → HasForm n → HasForm (moved_node places n)
moved_form places (node.Literal v) form = form
moved_form places (node.Operation o) form = form
moved_form places (node.Mux m) form = length-map m.reads (moved places) ∙ form

-- where the reads stand for the same terms, so do the nodes
module _ (known others : List NetTerm) (places : List ℕ) where
  abbrev Same : Read → Type 0
  Same r = read_term others (moved places r) ≡ read_term known r

  same_terms : (rs : List Read) → EachRead Same rs → read_terms others (moved_all places rs) ≡ read_terms known rs
  same_terms [] same = refl
  same_terms (r ∷ rs) same = λ j. term (same.0 j) (same_terms rs same.1 j)

  same_choice : (rs : List Read) (signed : Bool) (width : ℕ) → EachRead Same rs
      → chosen_term others (moved_all places rs) signed width ≡ chosen_term known rs signed width
  same_choice [] signed width same = refl
  same_choice (c ∷ []) signed width same = refl
  same_choice (c ∷ a ∷ []) signed width same = refl
  same_choice (c ∷ a ∷ b ∷ []) signed width same = rw (same.0, same.1.0, same.1.1.0) refl
  same_choice (c ∷ a ∷ b ∷ d ∷ rs) signed width same = refl

  same_copy : (n : Node) → EachRead Same (support_of n) → node_term others (moved_node places n) ≡ node_term known n
  same_copy (node.Literal v) same = refl
  same_copy (node.Operation o) same =
      ap (λ ts. operation o.op ts o.integers (record { signed = o.signed; width = o.width })) (same_terms o.reads same)
  same_copy (node.Mux m) same = same_choice m.reads m.signed m.width same

module _ (nodes : List Node) where
  -- what is read stands for the same term among the copies
  pub record Stays (copies : List Node) (places : List ℕ) (r : Read) : Type 0 where
    pub below : IsBelow (length copies) (moved places r)
    pub term : read_term (terms copies) (moved places r) ≡ read_term (terms nodes) r

  -- and so it does where others follow
  stays_later : (copies more : List Node) (places : List ℕ) (p k : ℕ) → Grows copies more → k < length places
      → Stays copies places (read.Node k) → Stays more (places ++ p ∷ []) (read.Node k)
  stays_later copies more places p k grows within s =
      let r = moved places (read.Node k) in
      let same : r ≡ moved (places ++ p ∷ []) (read.Node k) =
      ap (λ (o : Option ℕ). read.Node (place_or o k)) (sym (get_left places (p ∷ []) k within)) in
      let stays = same_read (length copies) (terms copies) (terms more) r (grown_keeps copies more grows) s.below in
      record {
        below = subst (IsBelow (length more)) same (below_later copies more r grows s.below);
        term = subst (λ (x : Read). read_term (terms more) x ≡ read_term (terms nodes) (read.Node k)) same (stays ∙ s.term);
      }

  all_below : (copies : List Node) (places : List ℕ) (rs : List Read) → EachRead (Stays copies places) rs → AreBelow (length copies) (moved_all places rs)
  all_below copies places [] s = tt
  all_below copies places (r ∷ rs) s = (s.0.below, all_below copies places rs s.1)

  all_same : (copies : List Node) (places : List ℕ) (rs : List Read) → EachRead (Stays copies places) rs
      → EachRead (λ r. read_term (terms copies) (moved places r) ≡ read_term (terms nodes) r) rs
  all_same copies places [] s = tt
  all_same copies places (r ∷ rs) s = (s.0.term, all_same copies places rs s.1)

module _ (nodes : List Node) (roles : List NetRole) (marks : List Bool) where
  -- the copies of the marked ones of the first so many nodes, and the places of all of these
  pub record Copied (so_far : ℕ) (copies : List Node) (places : List ℕ) : Type 0 where
    pub long : length places ≡ so_far
    pub before : ReadBefore 0 copies
    pub stays : (k : ℕ) → k < so_far → slice_get marks k ≡ Some true → Stays nodes copies places (read.Node k)
    pub typed : (leaves : List Leaf) (held : ℕ → LeafType) (count : ℕ) (hold : LeavesHold leaves held count) → ReadWhole held count nodes roles
        → AreTyped leaves held count hold copies

  pub none_copied : Copied 0 [] []
  none_copied = record {
    long = refl;
    before = tt;
    stays = λ k lt set. absurd (omega arith);
    typed = λ leaves held count hold reads. record { are = tt; each = λ k lt. absurd (omega arith) };
  }

  pub none_more : (i : ℕ) (copies : List Node) (places : List ℕ) (p : ℕ) → slice_get marks i ≡ Some false → Copied i copies places
      → Copied (i + 1) copies (places ++ p ∷ [])
  none_more i copies places p unset so = record {
    long = omega (arith, length-append places (p ∷ []), so.long);
    before = so.before;
    stays = λ k lt set. by k lt set (cases_eq k i);
    typed = so.typed;
  }
    where
      by : (k : ℕ) → k < i + 1 → slice_get marks k ≡ Some true → (k ≡ i) ⊎ (k ≡ i → ⊥) → Stays nodes copies (places ++ p ∷ []) (read.Node k)
      by k lt set (inl e) = let other : slice_get marks k ≡ Some false = ap (slice_get marks) e ∙ unset in cc
      by k lt set (inr other) =
          stays_later nodes copies copies places p k (grows_none copies) (omega (arith, other, so.long)) (so.stays k (omega (arith, other)) set)

  each_stays : (i : ℕ) (copies : List Node) (places : List ℕ) (rs : List Read) → Copied i copies places → AreBelow i rs → AreMarked marks rs
      → EachRead (Stays nodes copies places) rs
  each_stays i copies places [] so below set = tt
  each_stays i copies places (read.Leaf x ∷ rs) so below set =
      (record { below = tt; term = refl }, each_stays i copies places rs so below.1 set.1)
  each_stays i copies places (read.Node k ∷ rs) so below set =
      (so.stays k below.0 set.0, each_stays i copies places rs so below.1 set.1)

  module _ (needed : AreNeeded nodes roles marks) (in_order : ReadBefore 0 nodes) where
    module _ (i : ℕ) (n : Node) (copies : List Node) (places : List ℕ) (at : slice_get nodes i ≡ Some n) (set : slice_get marks i ≡ Some true)
        (form : HasForm n) (so : Copied i copies places) where
      abbrev copy : Node
      copy = moved_node places n

      abbrev more : List Node
      more = copies ++ copy ∷ []

      abbrev further : List ℕ
      further = places ++ length copies ∷ []

      parts : EachRead (Stays nodes copies places) (support_of n)
      parts = each_stays i copies places (support_of n) so (reads_below nodes i n in_order at) (needed.of_nodes i n at set)

      below : AreBelow (length copies) (support_of copy)
      below = subst (AreBelow (length copies)) (sym (moved_support places n)) (all_below nodes copies places (support_of n) parts)

      same : node_term (terms copies) copy ≡ node_term (terms nodes) n
      same = same_copy (terms nodes) (terms copies) places n (all_same nodes copies places (support_of n) parts)

      before : ReadBefore 0 more
      before = before_push 0 copies copy so.before (subst (λ (k : ℕ). AreBelow k (support_of copy)) (omega arith) below)

      grows : Grows copies more
      grows = record { added = copy ∷ []; is = refl }

      stands : Stands copies more copy (length copies)
      stands = record {
        grows = grows;
        within = omega (arith, length-append copies (copy ∷ []));
        term =
            node_there more (length copies) copy before (push_end copies copy)
            ∙ same_node (length copies) (terms copies) (terms more) copy (grown_keeps copies more grows) below;
      }

      here : Stays nodes more further (read.Node i)
      here =
          let at_end : slice_get further i ≡ Some (length copies) = ap (slice_get further) (sym so.long) ∙ push_end places (length copies) in
          let place : read.Node (length copies) ≡ moved further (read.Node i) = ap (λ (o : Option ℕ). read.Node (place_or o i)) (sym at_end) in
          record {
            below = subst (IsBelow (length more)) place stands.within;
            term = subst (λ (x : Read). read_term (terms more) x ≡ read_term (terms nodes) (read.Node i)) place
                (stands.term ∙ same ∙ sym (node_there nodes i n in_order at));
          }

      by : (k : ℕ) → k < i + 1 → slice_get marks k ≡ Some true → (k ≡ i) ⊎ (k ≡ i → ⊥) → Stays nodes more further (read.Node k)
      by k lt set_there (inl e) = subst (λ (j : ℕ). Stays nodes more further (read.Node j)) (sym e) here
      by k lt set_there (inr other) =
          stays_later nodes copies more places (length copies) k grows (omega (arith, other, so.long)) (so.stays k (omega (arith, other)) set_there)

      pub one_more : Copied (i + 1) more further
      one_more = record {
        long = omega (arith, length-append places (length copies ∷ []), so.long);
        before = before;
        stays = λ k lt set_there. by k lt set_there (cases_eq k i);
        typed = λ leaves held count hold reads.
            let whole : IsWhole held count (node_term (terms copies) copy) =
            subst (IsWhole held count) (node_there nodes i n in_order at ∙ sym same) (needed.whole held count reads i set) in
            typed_push leaves held count hold copies (so.typed leaves held count hold reads) copy stands (moved_form places n form) below whole;
      }

    -- what the roles read stays
    stays_there : (kept : KeptNodes) → Copied (length nodes) kept.nodes.items kept.places.items → (r : Read) → IsMarked marks r → IsBelow (length nodes) r
        → StaysThere nodes kept r
    stays_there kept so (read.Leaf x) set within = record { below = tt; term = refl }
    stays_there kept so (read.Node k) set within = let s = so.stays k within set in record { below = s.below; term = s.term }

    all_stay : (kept : KeptNodes) → Copied (length nodes) kept.nodes.items kept.places.items → (rs : List Read)
        → EachRead (λ r. IsBelow (length nodes) r → IsMarked marks r) rs → EachRead (λ r. IsBelow (length nodes) r → StaysThere nodes kept r) rs
    all_stay kept so [] set = tt
    all_stay kept so (r ∷ rs) set = (λ within. stays_there kept so r (set.0 within) within, all_stay kept so rs set.1)

    pub all_kept : (kept : KeptNodes) → Copied (length nodes) kept.nodes.items kept.places.items → Keeps nodes roles kept
    all_kept kept so = record {
      before = so.before;
      reads = λ x r at. all_stay kept so (role_reads r) (needed.of_roles x r at);
      whole = λ leaves held count hold reads. (so.typed leaves held count hold reads).are;
    }
