-- The instances of a block over leaves, each with how many whens stand round it in the module.
use Rattle.std.proofs.Common.{◌≡◌, ℕ, ◌+◌, List, [], ◌∷◌, ◌++◌, refl, ap, ◌∙◌, append_assoc, sym, inl}
use Rattle.fir_base.specs.Lists.{In}
use Rattle.fir_base.proofs.Members.{in_left, in_right}
use Rattle.fir_meaning.specs.working.LeafBlocks.{HeldInstance, LeafBlock, LeafStatement, drive, when, instance, done, then, joined}
use Rattle.fir_meaning.specs.working.Designs.{EachInstance, AllInstances}

pub record Held : Type 0 where
  pub depth : ℕ
  pub own : HeldInstance

abbrev mutual
  pub held_in : ℕ → LeafStatement → List Held
  held_in k (drive p b ps t) = []
  held_in k (when p c a b) = all_held_in (k + 1) a ++ all_held_in (k + 1) b
  held_in k (instance i) = record { depth = k; own = i } ∷ []

  pub all_held_in : ℕ → LeafBlock → List Held
  all_held_in k done = []
  all_held_in k ((then) s b) = held_in k s ++ all_held_in k b

pub held_joined : (k : ℕ) (b c : LeafBlock) → all_held_in k (joined b c) ≡ all_held_in k b ++ all_held_in k c
held_joined k done c = refl
held_joined k ((then) s b) c =
    ap (λ hs. held_in k s ++ hs) (held_joined k b c) ∙ sym (append_assoc (held_in k s) (all_held_in k b) (all_held_in k c))

-- what holds of each of these holds of the number of each module that is instantiated
module _ (P : ℕ → Type 0) where
  mutual
    each_by_held : (k : ℕ) (s : LeafStatement) → ((h : Held) → In (held_in k s) h → P h.own.module_number) → EachInstance P s
    each_by_held k (drive p b ps t) f = tt
    each_by_held k (when p c a b) f = (
      all_by_held (k + 1) a (λ h i. f h (in_left (all_held_in (k + 1) a) (all_held_in (k + 1) b) h i)),
      all_by_held (k + 1) b (λ h i. f h (in_right (all_held_in (k + 1) a) (all_held_in (k + 1) b) h i)),
    )
    each_by_held k (instance i) f = f (record { depth = k; own = i }) (inl refl)

    pub all_by_held : (k : ℕ) (b : LeafBlock) → ((h : Held) → In (all_held_in k b) h → P h.own.module_number) → AllInstances P b
    all_by_held k done f = tt
    all_by_held k ((then) s b) f = (
      each_by_held k s (λ h i. f h (in_left (held_in k s) (all_held_in k b) h i)),
      all_by_held k b (λ h i. f h (in_right (held_in k s) (all_held_in k b) h i)),
    )
