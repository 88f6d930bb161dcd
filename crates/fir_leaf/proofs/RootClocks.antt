-- A clock leaf has the clock of its root, and one root at most.
use Rattle.std.proofs.Common.{◌≡◌, ℕ, List, [], ◌∷◌, Option, Some, sym, ap, ◌∙◌, subst, inl, inr}
use Rattle.std.proofs.lemmas.Option.{same_Some}
use Rattle.fir_base.specs.Lists.{In}
use Rattle.fir_base.specs.Ticks.{Tick}
use Rattle.fir_meaning.specs.working.Terms.{Term, no_picks, read, zeros}
use Rattle.fir_meaning.specs.working.TermValues.{Env, clock_of}
use Rattle.fir_meaning.specs.working.Choices.{Live}
use Rattle.fir_meaning.specs.working.LeafModules.{Role, computed, pipe, reading, register, sink, source}
use Rattle.fir_meaning.specs.LeafTypes.{a_clock}
use Rattle.fir_meaning.specs.working.LeafCircuits.{LeafCircuit, depth_of, role_of, type_of_leaf}
use Rattle.fir_meaning.specs.working.LeafSettled.{Settled, Shows, clock_given, clock_shown}
use Rattle.fir_leaf.specs.working.ClockRoots.{GivesClock, IsChain, IsClockLeaf, IsEnd, root_clock}
use Rattle.fir_leaf.specs.working.RunLaws.{HasOneRoot, RootIsClock}
use Rattle.fir_leaf.proofs.LiveGifts.{from_live}

only_live : (l m : Live) → In (l ∷ []) m → l ≡ m
only_live l m (inl e) = e
only_live l m (inr n) = absurd n

module _ (c : LeafCircuit) where
  by_role : (env : Env) (x : ℕ) (r : Role) (t : Term) → clock_shown c env x r ≡ Some (env.clocks x) → GivesClock c x r t
      → env.clocks x ≡ clock_of (type_of_leaf c) env t
  by_role env x sink t e g =
      let clock = clock_of (type_of_leaf c) env in
      let r = from_live (type_of_leaf c) (depth_of c) env.numbers (clock_given c env) x c.body (env.clocks x) e in
      let one : In (g.live ∷ []) r.live = subst (λ (ls : List Live). In ls r.live) g.only r.among in
      sym r.gives ∙ ap (λ (l : Live). clock l.given) (sym (only_live g.live r.live one)) ∙ ap clock g.gives
  by_role env x (computed u) t e g = sym (same_Some _ _ e) ∙ ap (clock_of (type_of_leaf c) env) g
  by_role env x source t e g = absurd g
  by_role env x (register k r) t e g = absurd g
  by_role env x (reading r) t e g = absurd g
  by_role env x (pipe r k u) t e g = absurd g

  module _ (state : List ℕ) (tick : Tick) (env : Env) (settled : Settled c state tick env) where
    shown : (x : ℕ) → IsClockLeaf c x → clock_shown c env x (role_of c x) ≡ Some (env.clocks x)
    shown x k =
        let s : Shows c state tick.inputs env x a_clock = subst (λ t. Shows c state tick.inputs env x t) k.is_clock (settled.each x k.within) in
        s.0

    ended : (x : ℕ) (r : Role) (root : Option ℕ) → clock_shown c env x r ≡ Some (env.clocks x) → IsEnd c x r root → env.clocks x ≡ root_clock c root
    ended x source root e h = sym (same_Some _ _ e) ∙ ap (root_clock c) (sym h)
    ended x sink root e h = by_role env x sink zeros e h.0 ∙ ap (root_clock c) (sym h.1)
    ended x (computed t) root e h = by_role env x (computed t) zeros e h.0 ∙ ap (root_clock c) (sym h.1)
    ended x (register k s) root e h = absurd h.0
    ended x (reading s) root e h = absurd h.0
    ended x (pipe s k u) root e h = absurd h.0

    along : (walk : List ℕ) (x final : ℕ) (root : Option ℕ) → IsClockLeaf c x → IsChain c x walk final → IsEnd c final (role_of c final) root
        → env.clocks x ≡ root_clock c root
    along [] x final root k h e = ended x (role_of c x) root (shown x k) (rw h e)
    along (y ∷ walk) x final root k h e = by_role env x (role_of c x) (read y no_picks) (shown x k) h.0 ∙ along walk y final root h.1 h.2 e

pub root_is_clock : RootIsClock
root_is_clock c state tick env x root settled k h = along c state tick env settled h.walk x h.final root k h.chain h.ends

module _ (c : LeafCircuit) where
  pub gives_once : (x : ℕ) (r : Role) (t u : Term) → GivesClock c x r t → GivesClock c x r u → t ≡ u
  gives_once x sink t u g h =
      let lists : g.live ∷ [] ≡ h.live ∷ [] = sym g.only ∙ h.only in
      let same : g.live ≡ h.live = cc in
      sym g.gives ∙ ap (λ (l : Live). l.given) same ∙ h.gives
  gives_once x (computed v) t u g h = sym g ∙ h
  gives_once x source t u g h = absurd g
  gives_once x (register k r) t u g h = absurd g
  gives_once x (reading r) t u g h = absurd g
  gives_once x (pipe r k v) t u g h = absurd g

  ends_once : (x : ℕ) (role : Role) (r s : Option ℕ) → IsEnd c x role r → IsEnd c x role s → r ≡ s
  ends_once x source r s g h = g ∙ sym h
  ends_once x sink r s g h = g.1 ∙ sym h.1
  ends_once x (computed v) r s g h = g.1 ∙ sym h.1
  ends_once x (register k e) r s g h = g.1 ∙ sym h.1
  ends_once x (reading e) r s g h = g.1 ∙ sym h.1
  ends_once x (pipe e k v) r s g h = g.1 ∙ sym h.1

  -- an end goes no further
  pub stops : (x y : ℕ) (role : Role) (r : Option ℕ) → IsEnd c x role r → GivesClock c x role (read y no_picks) → ⊥
  stops x y source r e g = g
  stops x y sink r e g = let same : zeros ≡ read y no_picks = gives_once x sink zeros (read y no_picks) e.0 g in absurd cc
  stops x y (computed v) r e g = let same : zeros ≡ read y no_picks = gives_once x (computed v) zeros (read y no_picks) e.0 g in absurd cc
  stops x y (register k s) r e g = g
  stops x y (reading s) r e g = g
  stops x y (pipe s k v) r e g = g

  both : (v w : List ℕ) (x y z : ℕ) (r s : Option ℕ) → IsChain c x v y → IsEnd c y (role_of c y) r → IsChain c x w z → IsEnd c z (role_of c z) s → r ≡ s
  both [] [] x y z r s a d b e = ends_once x (role_of c x) r s (rw a d) (rw b e)
  both [] (q ∷ w) x y z r s a d b e = absurd (stops x q (role_of c x) r (rw a d) b.0)
  both (p ∷ v) [] x y z r s a d b e = absurd (stops x p (role_of c x) s (rw b e) a.0)
  both (p ∷ v) (q ∷ w) x y z r s a d b e =
      let one : read p no_picks ≡ read q no_picks = gives_once x (role_of c x) (read p no_picks) (read q no_picks) a.0 b.0 in
      let same : q ≡ p = cc in
      both v w p y z r s a.2 d (subst (λ u. IsChain c u w z) same b.2) e

pub has_one_root : HasOneRoot
has_one_root c x r s g h = both c g.walk h.walk x g.final h.final r s g.chain g.ends h.chain h.ends
