-- The way back from where a search has ended to the init where it began.
use Rattle.std.proofs.Common.{◌≡◌, ℕ, ◌+◌, ◌-◌, ◌<◌, ◌≤◌, List, [], ◌∷◌, Some, true, length, length-append, get_or, reverse, sym, ap, ◌∙◌, subst, refl, inl, inr, ◌⊎◌, arith}
use Rattle.std.specs.Prelude.{slice_get, Option, None}
use Rattle.std.proofs.lemmas.List.{reverse-append}
use Rattle.std.proofs.lemmas.Option.{slice_get_read, slice_get_within}
use Rattle.fir_base.specs.Lists.{In, Distinct}
use Rattle.fir_base.proofs.Writes.{push_end, two_items}
use Rattle.fir_ast.specs.declared.place.Place.{Place}
use Rattle.fir_net.specs.declared.leaf.Leaf.{Leaf}
use Rattle.fir_net.specs.declared.net.FlatNet.{FlatNet}
use Rattle.fir_net.specs.declared.reads.Read.{Read}
use Rattle.fir_net.specs.declared.reads.Read.TheVariants as read
use Rattle.fir_net.specs.working.Dependence.{IsOf, Reads}
use Rattle.fir_net.specs.working.IsWritable.{is_input_or_state}
use Rattle.fir_loop.specs.working.IsCircle.{AreLeaves}
use Rattle.fir_loop.specs.working.IsLoop.{HangsThrough}
use Rattle.fir_inits.specs.declared.search.Met.{Met}
use Rattle.fir_inits.specs.declared.search.Origin.TheVariants as origin
use Rattle.fir_inits.specs.declared.search.Search.{Search}
use Rattle.fir_inits.specs.working.AsyncInits.{HasInit}
use Rattle.fir_inits.specs.working.Searched.{ends, leaf_ends, AreMet, ComesFrom, HasEnd}
use Rattle.fir_inits.specs.working.ShowsInit.{IsWalkTo, ReadsLeaf}
use Rattle.fir_inits.specs.working.Walks.{with_leaf, IsInitWalk}

-- the leaf at which a search ends
pub record IsEnd (net : FlatNet) (k : ℕ) : Type 0 where
  pub leaf : Leaf
  pub at : slice_get net.leaves k ≡ Some leaf
  pub ends : is_input_or_state leaf.role ≡ true

-- from v on through these leaves, the first of which is v itself where v is a leaf
pub record LeadsTo (net : FlatNet) (v : Read) (walk : List ℕ) (final : ℕ) : Type 0 where
  pub first : ℕ
  pub rest : List ℕ
  pub is : walk ≡ first ∷ rest
  pub begins : ReadsLeaf net v first
  pub goes : IsWalkTo net first rest final

-- it hangs on v from which these leaves lead on, or there are none and it is the end
abbrev pub Follows : FlatNet → Read → List ℕ → ℕ → Type 0
Follows net u walk final = ((walk ≡ []) × (u ≡ read.Leaf final)) ⊎ ((v : Read) × Reads net u v × LeadsTo net v walk final)

-- with v itself, where it is a leaf
abbrev pub from_leaf : Read → List ℕ → List ℕ
from_leaf (read.Leaf k) walk = k ∷ walk
from_leaf (read.Node k) walk = walk

reversed : (v : Read) (back : List ℕ) → reverse (with_leaf back v) ≡ from_leaf v (reverse back)
reversed (read.Leaf k) back = reverse-append back (k ∷ [])
reversed (read.Node k) back = refl

module _ (net : FlatNet) where
  through : (u v : Read) (x : ℕ) → Reads net u v → ReadsLeaf net v x → (nodes : List ℕ) × HangsThrough net u nodes (read.Leaf x)
  through u (read.Leaf y) x r b = ([], subst (λ (z : ℕ). Reads net u (read.Leaf z)) b r)
  through u (read.Node n) x r b = (n ∷ b.0, (r, b.1))

  leads_on : (u : Read) (walk : List ℕ) (final : ℕ) → Follows net u walk final → LeadsTo net u (from_leaf u walk) final
  leads_on (read.Leaf k) walk final (inl (none, is)) =
      let same : k ≡ final = cc in
      record { first = k; rest = []; is = ap (λ (xs : List ℕ). k ∷ xs) none; begins = refl; goes = same }
  leads_on (read.Node k) walk final (inl (none, is)) = absurd (cc)
  leads_on (read.Leaf k) walk final (inr (v, r, l)) =
      let t = through (read.Leaf k) v l.first r l.begins in
      record { first = k; rest = l.first ∷ l.rest; is = ap (λ (xs : List ℕ). k ∷ xs) l.is; begins = refl; goes = (record { nodes = t.0; through = t.1 }, l.goes) }
  leads_on (read.Node k) walk final (inr (v, r, l)) =
      record { first = l.first; rest = l.rest; is = l.is; begins = through (read.Node k) v l.first r l.begins; goes = l.goes }

  module _ (s : Search) (are : AreMet net s.marks.items s.met.items) where
    abbrev met : List Met
    met = s.met.items

    -- each of the leaves was met at that number or later
    pub record MetFrom (number : ℕ) (walk : List ℕ) : Type 0 where
      pub each : (x : ℕ) → In walk x → (j : ℕ) × (number ≤ j) × (m : Met) × (slice_get met j ≡ Some m) × (m.read ≡ read.Leaf x)

    -- the walk from the one of that number on, without it, last leaf first
    pub record Walking (number : ℕ) (back : List ℕ) : Type 0 where
      pub entry : Met
      pub at : slice_get met number ≡ Some entry
      pub final : ℕ
      pub end : IsEnd net final
      pub follows : Follows net entry.read (reverse back) final
      pub later : MetFrom (number + 1) (reverse back)
      pub distinct : Distinct (reverse back)
      pub leaves : AreLeaves net (reverse back)

    -- and with it
    pub record Walked (number : ℕ) (v : Read) (walk : List ℕ) : Type 0 where
      pub final : ℕ
      pub end : IsEnd net final
      pub leads : LeadsTo net v walk final
      pub later : MetFrom number walk
      pub distinct : Distinct walk
      pub leaves : AreLeaves net walk

    each_from : (number : ℕ) (v : Read) (walk : List ℕ) → (m : Met) → slice_get met number ≡ Some m → m.read ≡ v → MetFrom (number + 1) walk → MetFrom number (from_leaf v walk)
    each_from number (read.Leaf k) walk m at is later = record { each = each }
      where
        each : (x : ℕ) → In (k ∷ walk) x → (j : ℕ) × (number ≤ j) × (n : Met) × (slice_get met j ≡ Some n) × (n.read ≡ read.Leaf x)
        each x (inl e) = (number, omega arith, m, at, is ∙ ap read.Leaf e)
        each x (inr o) = let l = later.each x o in (l.0, omega (arith, l.1), l.2, l.3, l.4)
    each_from number (read.Node k) walk m at is later = record { each = λ x o. let l = later.each x o in (l.0, omega (arith, l.1), l.2, l.3, l.4) }

    distinct_from : (number : ℕ) (v : Read) (walk : List ℕ) → (m : Met) → slice_get met number ≡ Some m → m.read ≡ v → MetFrom (number + 1) walk → Distinct walk → Distinct (from_leaf v walk)
    distinct_from number (read.Leaf k) walk m at is later distinct =
        ((λ o. let l = later.each k o in omega (arith, l.1, are.once number l.0 m l.2 at l.3 (is ∙ sym l.4))), distinct)
    distinct_from number (read.Node k) walk m at is later distinct = distinct

    leaves_from : (v : Read) (walk : List ℕ) → IsOf net v → AreLeaves net walk → AreLeaves net (from_leaf v walk)
    leaves_from (read.Leaf k) walk of leaves = (of, leaves)
    leaves_from (read.Node k) walk of leaves = leaves

    module _ (number : ℕ) (back : List ℕ) (w : Walking number back) (m : Met) (found : m ≡ get_or met number m) (new : List ℕ) (is : new ≡ with_leaf back m.read) where
      at : slice_get met number ≡ Some m
      at = slice_get_read met (length met) number m refl (slice_get_within met number w.entry w.at) found

      same : w.entry ≡ m
      same = two_items met number w.entry m w.at at

      walked : Walked number m.read (reverse new)
      walked = subst (Walked number m.read) (sym (ap reverse is ∙ reversed m.read back)) (record {
        final = w.final;
        end = w.end;
        leads = leads_on m.read (reverse back) w.final (subst (λ (n : Met). Follows net n.read (reverse back) w.final) same w.follows);
        later = each_from number m.read (reverse back) m at refl w.later;
        distinct = distinct_from number m.read (reverse back) m at refl w.later w.distinct;
        leaves = leaves_from m.read (reverse back) (are.of number m at) w.leaves;
      })

      -- to the one by which it was met
      pub walk_on : (before : ℕ) → m.origin ≡ origin.Met before → Walking before new
      walk_on before by_ =
          let came : ComesFrom net met number m.read (origin.Met before) = subst (ComesFrom net met number m.read) by_ (are.comes number m at) in
          record {
            entry = came.1;
            at = came.2;
            final = walked.final;
            end = walked.end;
            follows = inr (m.read, came.3, walked.leads);
            later = record { each = λ x o. let l = walked.later.each x o in (l.0, omega (arith, l.1, came.0), l.2, l.3, l.4) };
            distinct = walked.distinct;
            leaves = walked.leaves;
          }

      pub walk_falls : (before : ℕ) → m.origin ≡ origin.Met before → before < number
      walk_falls before by_ = let came : ComesFrom net met number m.read (origin.Met before) = subst (ComesFrom net met number m.read) by_ (are.comes number m at) in came.0

      -- to the init where it began
      pub walk_begins : (register : ℕ) → m.origin ≡ origin.Init register → HasInit net register m.read
      walk_begins register by_ = subst (ComesFrom net met number m.read) by_ (are.comes number m at)

      pub walk_ends : (register : ℕ) (by_ : m.origin ≡ origin.Init register) (l : Leaf) → slice_get net.leaves register ≡ Some l → (place : Place) → place ≡ l.place → IsInitWalk net place (reverse new)
      walk_ends register by_ l here place declared =
          let has = walk_begins register by_ in
          let found : has.leaf ≡ l = two_items net.leaves register has.leaf l has.at here in
          record {
            register = register;
            init = m.read;
            has = has;
            declared = declared ∙ ap (λ (x : Leaf). x.place) (sym found);
            leaves = walked.leaves;
            distinct = walked.distinct;
            first = walked.leads.first;
            rest = walked.leads.rest;
            is = walked.leads.is;
            final = walked.final;
            begins = walked.leads.begins;
            goes = walked.leads.goes;
            end = walked.end.leaf;
            end_at = walked.end.at;
            ends = walked.end.ends;
          }

-- it begins at the last that was met
end_of : (net : FlatNet) (v : Read) → ends net v ≡ true → (k : ℕ) × (v ≡ read.Leaf k) × IsEnd net k
end_of net (read.Leaf k) e = by (slice_get net.leaves k) refl e
  where
    by : (o : Option Leaf) → slice_get net.leaves k ≡ o → leaf_ends o ≡ true → (j : ℕ) × (read.Leaf k ≡ read.Leaf j) × IsEnd net j
    by None at is = absurd (cc)
    by (Some l) at is = (k, refl, record { leaf = l; at = at; ends = is })
end_of net (read.Node k) e = absurd (cc)

pub walk_first : (net : FlatNet) (s : Search) (h : HasEnd net s) → Walking net s h.met (length s.met.items - 1) []
walk_first net s h =
    let end = end_of net h.last.read h.ends in
    let place : length s.met.items - 1 ≡ length h.before = omega (arith, ap length h.is, length-append h.before (h.last ∷ [])) in
    record {
      entry = h.last;
      at = rw (place, h.is) (push_end h.before h.last);
      final = end.0;
      end = end.2;
      follows = inl (refl, end.1);
      later = record { each = λ x o. absurd o };
      distinct = tt;
      leaves = tt;
    }

-- the walk of a search that has an end
pub record IsBack (net : FlatNet) (s : Search) (number : ℕ) (back : List ℕ) : Type 0 where
  pub are : AreMet net s.marks.items s.met.items
  pub walking : Walking net s are number back
