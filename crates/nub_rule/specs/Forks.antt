-- The right to fork a thread, what is left of a thread that has ended, and all of these in order of
-- their numbers.
use Rattle.std.specs.Prelude.{◌≡◌, ◌≢◌, ℕ, zero, suc, ◌<◌, cond, eqb, List, [], ◌∷◌, ◌++◌, Some, None}
use Rattle.larch_actions.specs.declared.event.Life.TheVariants.{Live, Ended}
use Rattle.larch_actions.specs.declared.event.Version.{Version}
use Rattle.atomic_table.specs.Seated.{TableId}
use Rattle.nub_rule.specs.declared.view.Child.TheVariants.{No as Childless}
use Rattle.nub_rule.specs.declared.view.Kind.TheVariants.{Member}
use Rattle.nub_rule.specs.declared.view.Pen.TheVariants.{No}
use Rattle.nub_rule.specs.Known.{Known, HasNone, free_space, known_as}
use Rattle.nub_rule.specs.Parts.{unborn}

module _ {T H W : Type 0} where
  -- the thread n, which nobody has forked, with room for so many events
  abbrev pub unborn_known : TableId → Version → W → (W → ℕ → H) → ℕ → ℕ → Known T H W
  unborn_known z version w begin n capacity =
      known_as z n (
        record {
          world = Some w;
          kind = Member;
          number = n;
          part = unborn version (Some (begin w n));
          child = Childless;
          next =
              0;
          back = [];
        },
        [],
      ) [] (free_space capacity) 0

  -- the right to fork a thread, which isn't the first and has done nothing
  pub record IsUnborn (begin : W → ℕ → H) (k : Known T H W) : Type 0 where
    pub later : 0 < k.number
    pub world : W
    pub is : k ≡ unborn_known k.table_id k.version world begin k.number k.capacity

  -- the thread has ended: it holds no mutex, no call of it is open, and it is forking no other
  pub record IsOver (k : Known T H W) : Type 0 where
    pub life : k.life ≡ Ended
    pub none : HasNone k
    pub spin : k.spin ≡ None
    pub queue : k.queue ≡ []
    pub owed : k.owed ≡ []
    pub left : k.left ≡ []
    pub stand : k.stand ≡ None
    pub pen : k.pen ≡ No
    pub wait : k.wait ≡ None
    pub raised : k.raised ≡ None
    pub calling : k.calling ≡ None
    pub turns : k.turns ≡ []
    pub cleared : k.cleared ≡ []
    pub looked : k.looked ≡ []
    pub child : k.child ≡ Childless

  -- the thread may come back to the collector: it has no mutex's bit and no spin word, is in no
  -- wait, is forking no other and doesn't live
  pub record MayComeBack (k : Known T H W) : Type 0 where
    pub life : k.life ≢ Live
    pub none : HasNone k
    pub spin : k.spin ≡ None
    pub wait : k.wait ≡ None
    pub child : k.child ≡ Childless

  -- the threads of the list that have this number
  abbrev pub with_number : ℕ → List (Known T H W) → List (Known T H W)
  with_number n [] = []
  with_number n (k ∷ ks) = cond (eqb k.number n) (k ∷ with_number n ks) (with_number n ks)

  -- the threads with numbers below n, in order of these
  abbrev pub in_order : ℕ → List (Known T H W) → List (Known T H W)
  in_order zero ks = []
  in_order (suc n) ks = in_order n ks ++ with_number n ks

  -- for each number below n, exactly one of the list has it
  abbrev pub AreAll : ℕ → List (Known T H W) → Type 0
  AreAll n ks = (i : ℕ) → i < n → (k : Known T H W) × (with_number i ks ≡ k ∷ [])
