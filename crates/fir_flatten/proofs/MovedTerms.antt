-- What the nodes of a module stand for where they are put behind others with their numbers moved: the same terms over the numbers of the whole design.
use Rattle.std.proofs.Common.{◌≡◌, ℕ, suc, ◌+◌, ◌^◌, ◌<◌, List, [], ◌∷◌, ◌++◌, length, map, refl, sym, ap, ◌∙◌, subst, arith, append_assoc, append-nil, length-append, inl}
use Rattle.std.proofs.lemmas.List.{get_or-append-add, get_or-map, length-map, map-append}
use Rattle.fir_base.specs.Lists.{In}
use Rattle.fir_base.proofs.Members.{in_left, in_right}
use Rattle.fir_bits.specs.Forms.{no_type}
use Rattle.fir_meaning.specs.working.TermValues.{Holds}
use Rattle.fir_connect.specs.working.Lowered.{zero_of}
use Rattle.fir_connect.specs.working.MovedTerms.{renumbered, renumbered_each}
use Rattle.fir_connect.specs.working.NetReads.{each_read, net_reads}
use Rattle.fir_connect.specs.working.NetTerms.{NetTerm, NetTerms, leaf, mux, no_terms, operation, term, term_type, value}
use Rattle.fir_net.specs.declared.node.Node.{Node}
use Rattle.fir_net.specs.declared.node.Node.TheVariants as node
use Rattle.fir_net.specs.declared.reads.Read.{Read}
use Rattle.fir_net.specs.declared.reads.Read.TheVariants as read
use Rattle.fir_net.specs.working.Dependence.{support_of}
use Rattle.fir_merge.specs.declared.bound.Bound.{Bound}
use Rattle.fir_merge.specs.working.Bounds.{StandsFor}
use Rattle.fir_merge.specs.working.NodeTerms.{AreBelow, IsBelow, ReadBefore, chosen_term, node_term, read_term, read_terms, terms, terms_from}
use Rattle.fir_merge.proofs.GrownTerms.{length-terms}
use Rattle.fir_flatten.specs.declared.offsets.Offsets.{Offsets}
use Rattle.fir_flatten.specs.working.MovedNets.{bound_moved, leaf_moved, node_moved, read_moved, reads_moved, saturated}

-- numbers that the code has
pub saturated_small : (x : ℕ) → x < 2 ^ 64 → saturated x ≡ x
unfolding saturated
saturated_small x lt = omega arith

-- renumberings that agree on what a term reads
mutual
  pub renumbered_same : (f g : ℕ → ℕ) (t : NetTerm) → ((y : ℕ) → In (net_reads t) y → f y ≡ g y) → renumbered f t ≡ renumbered g t
  renumbered_same f g (value v) h = refl
  renumbered_same f g (leaf x) h = ap leaf (h x (inl refl))
  renumbered_same f g (operation op ts ks t) h = ap (λ us. operation op us ks t) (each_same f g ts h)
  renumbered_same f g (mux c a b t) h =
      let xs = net_reads c in
      let ys = net_reads a in
      let zs = net_reads b in
      let first = renumbered_same f g c (λ y m. h y (in_left (xs ++ ys) zs y (in_left xs ys y m))) in
      let second = renumbered_same f g a (λ y m. h y (in_left (xs ++ ys) zs y (in_right xs ys y m))) in
      let third = renumbered_same f g b (λ y m. h y (in_right (xs ++ ys) zs y m)) in
      λ i. mux (first i) (second i) (third i) t

  each_same : (f g : ℕ → ℕ) (ts : NetTerms) → ((y : ℕ) → In (each_read ts) y → f y ≡ g y) → renumbered_each f ts ≡ renumbered_each g ts
  each_same f g no_terms h = refl
  each_same f g (term t ts) h =
      let first = renumbered_same f g t (λ y m. h y (in_left (net_reads t) (each_read ts) y m)) in
      let rest = each_same f g ts (λ y m. h y (in_right (net_reads t) (each_read ts) y m)) in
      λ i. term (first i) (rest i)

-- the type of a term is that of the renumbered one, where the leaves that it reads have theirs
pub same_type : (inner outer : Holds) (f : ℕ → ℕ) (t : NetTerm) → ((y : ℕ) → In (net_reads t) y → outer (f y) ≡ inner y)
    → term_type inner t ≡ term_type outer (renumbered f t)
same_type inner outer f (value v) h = refl
same_type inner outer f (leaf x) h = sym (h x (inl refl))
same_type inner outer f (operation op ts ks t) h = refl
same_type inner outer f (mux c a b t) h = refl

module _ (at : Offsets) where
  abbrev pub over_all : NetTerm → NetTerm
  over_all = renumbered (leaf_moved at)

  -- terms of a module behind those of others
  abbrev behind : List NetTerm → List NetTerm → List NetTerm
  behind told known = told ++ map over_all known

  module _ (told : List NetTerm) (first : length told ≡ at.nodes) where
    read_behind : (known : List NetTerm) (r : Read) → at.nodes + length known < 2 ^ 64 → IsBelow (length known) r
        → read_term (behind told known) (read_moved at r) ≡ over_all (read_term known r)
    read_behind known (read.Leaf x) room below = refl
    read_behind known (read.Node k) room below =
        let place : saturated (at.nodes + k) ≡ length told + k = saturated_small (at.nodes + k) (omega arith) ∙ ap (λ n. n + k) (sym first) in
        ap (λ j. read_term (behind told known) (read.Node j)) place ∙ get_or-append-add told (map over_all known) k (zero_of no_type)
        ∙ get_or-map over_all known k (zero_of no_type) (zero_of no_type) below

    reads_behind : (known : List NetTerm) (rs : List Read) → at.nodes + length known < 2 ^ 64 → AreBelow (length known) rs
        → read_terms (behind told known) (reads_moved at rs) ≡ renumbered_each (leaf_moved at) (read_terms known rs)
    reads_behind known [] room below = refl
    reads_behind known (r ∷ rs) room below =
        let one = read_behind known r room below.0 in
        let rest = reads_behind known rs room below.1 in
        λ i. term (one i) (rest i)

    choice_behind : (known : List NetTerm) (rs : List Read) (signed : _) (width : ℕ) → at.nodes + length known < 2 ^ 64 → AreBelow (length known) rs
        → chosen_term (behind told known) (reads_moved at rs) signed width ≡ over_all (chosen_term known rs signed width)
    choice_behind known [] signed width room below = refl
    choice_behind known (c ∷ []) signed width room below = refl
    choice_behind known (c ∷ a ∷ []) signed width room below = refl
    choice_behind known (c ∷ a ∷ b ∷ []) signed width room below =
        let one = read_behind known c room below.0 in
        let two = read_behind known a room below.1.0 in
        let three = read_behind known b room below.1.1.0 in
        λ i. mux (one i) (two i) (three i) (record { signed = signed; width = width })
    choice_behind known (c ∷ a ∷ b ∷ d ∷ rs) signed width room below = refl

    node_behind : (known : List NetTerm) (n : Node) → at.nodes + length known < 2 ^ 64 → AreBelow (length known) (support_of n)
        → node_term (behind told known) (node_moved at n) ≡ over_all (node_term known n)
    node_behind known (node.Literal v) room below = refl
    node_behind known (node.Operation o) room below =
        ap (λ ts. operation o.op ts o.integers (record { signed = o.signed; width = o.width })) (reads_behind known o.reads room below)
    node_behind known (node.Mux m) room below = choice_behind known m.reads m.signed m.width room below

    from_behind : (known : List NetTerm) (ns : List Node) → at.nodes + (length known + length ns) < 2 ^ 64 → ReadBefore (length known) ns
        → terms_from (behind told known) (map (node_moved at) ns) ≡ behind told (terms_from known ns)
    unfolding terms_from
    from_behind known [] room before = refl
    from_behind known (n ∷ ns) room before =
        let more = known ++ node_term known n ∷ [] in
        let long : length more ≡ suc (length known) = omega (arith, length-append known (node_term known n ∷ [])) in
        let one : behind told known ++ node_term (behind told known) (node_moved at n) ∷ [] ≡ behind told more =
        ap (λ t. behind told known ++ t ∷ []) (node_behind known n (omega arith) before.0)
        ∙ append_assoc told (map over_all known) (over_all (node_term known n) ∷ [])
        ∙ ap (λ (ts : List NetTerm). told ++ ts) (sym (map-append over_all known (node_term known n ∷ []))) in
        ap (λ (ts : List NetTerm). terms_from ts (map (node_moved at) ns)) one
        ∙ from_behind more ns (omega arith) (subst (λ (j : ℕ). ReadBefore j ns) (sym long) before.1)

  from_append : (known : List NetTerm) (xs ys : List Node) → terms_from known (xs ++ ys) ≡ terms_from (terms_from known xs) ys
  unfolding terms_from
  from_append known [] ys = refl
  from_append known (x ∷ xs) ys = from_append (known ++ node_term known x ∷ []) xs ys

  module _ (old ns : List Node) (first : length old ≡ at.nodes) (room : length old + length ns < 2 ^ 64) (before : ReadBefore 0 ns) where
    abbrev pub with_moved : List Node
    with_moved = old ++ map (node_moved at) ns

    pub terms_moved : terms with_moved ≡ terms old ++ map over_all (terms ns)
    terms_moved =
        from_append [] old (map (node_moved at) ns)
        ∙ ap (λ (ts : List NetTerm). terms_from ts (map (node_moved at) ns)) (sym (append-nil (terms old)))
        ∙ from_behind (terms old) (length-terms old ∙ first) [] ns (omega arith) before

    pub below_moved : (r : Read) → IsBelow (length ns) r → IsBelow (length with_moved) (read_moved at r)
    below_moved (read.Leaf x) below = tt
    below_moved (read.Node k) below =
        let place : saturated (at.nodes + k) ≡ at.nodes + k = saturated_small (at.nodes + k) (omega arith) in
        let long : length with_moved ≡ length old + length ns =
        length-append old (map (node_moved at) ns) ∙ ap (λ n. length old + n) (length-map ns (node_moved at)) in
        omega arith

    -- a bound of the module stands for its term over the numbers of the whole
    pub stands_moved : (inner outer : Holds) (g : ℕ → ℕ) (b : Bound) (t : NetTerm) → ((y : ℕ) → In (net_reads t) y → leaf_moved at y ≡ g y)
        → ((y : ℕ) → In (net_reads t) y → outer (g y) ≡ inner y) → StandsFor inner ns b t
        → StandsFor outer with_moved (bound_moved at b) (renumbered g t)
    stands_moved inner outer g b t places held h = record {
      below = below_moved b.read h.below;
      term =
          ap (λ (ts : List NetTerm). read_term ts (read_moved at b.read)) terms_moved
          ∙ read_behind (terms old) (length-terms old ∙ first) (terms ns) b.read (omega (arith, length-terms ns))
          (subst (λ n. IsBelow n b.read) (sym (length-terms ns)) h.below)
          ∙ ap over_all h.term ∙ renumbered_same (leaf_moved at) g t places;
      has_type = h.has_type ∙ same_type inner outer g t held;
    }

  -- each moved node reads earlier ones
  reads_below : (j : ℕ) (rs : List Read) → at.nodes + j < 2 ^ 64 → AreBelow j rs → AreBelow (at.nodes + j) (reads_moved at rs)
  reads_below j [] room below = tt
  reads_below j (read.Leaf x ∷ rs) room below = (tt, reads_below j rs room below.1)
  reads_below j (read.Node k ∷ rs) room below =
      let place : saturated (at.nodes + k) ≡ at.nodes + k = saturated_small (at.nodes + k) (omega (arith, below.0)) in
      (omega (arith, below.0, place), reads_below j rs room below.1)

  support_moved : (n : Node) → support_of (node_moved at n) ≡ reads_moved at (support_of n)
  support_moved (node.Literal v) = refl
  support_moved (node.Operation o) = refl
  support_moved (node.Mux m) = refl

  before_from : (j : ℕ) (ns : List Node) → at.nodes + (j + length ns) < 2 ^ 64 → ReadBefore j ns → ReadBefore (at.nodes + j) (map (node_moved at) ns)
  before_from j [] room before = tt
  before_from j (n ∷ ns) room before =
      let next : at.nodes + suc j ≡ suc (at.nodes + j) = omega arith in (
        subst (AreBelow (at.nodes + j)) (sym (support_moved n)) (reads_below j (support_of n) (omega arith) before.0),
        subst (λ (k : ℕ). ReadBefore k (map (node_moved at) ns)) next (before_from (suc j) ns (omega arith) before.1),
      )

before_joined : (j : ℕ) (xs ys : List Node) → ReadBefore j xs → ReadBefore (j + length xs) ys → ReadBefore j (xs ++ ys)
before_joined j [] ys h k = subst (λ (i : ℕ). ReadBefore i ys) (omega arith) k
before_joined j (x ∷ xs) ys h k = (h.0, before_joined (suc j) xs ys h.1 (subst (λ (i : ℕ). ReadBefore i ys) (omega arith) k))

pub before_moved : (at : Offsets) (old ns : List Node) → length old ≡ at.nodes → length old + length ns < 2 ^ 64 → ReadBefore 0 old → ReadBefore 0 ns
    → ReadBefore 0 (old ++ map (node_moved at) ns)
before_moved at old ns first room before more =
    before_joined 0 old (map (node_moved at) ns) before
    (subst (λ (i : ℕ). ReadBefore i (map (node_moved at) ns)) (omega arith) (before_from at 0 ns (omega arith) more))
