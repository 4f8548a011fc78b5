-- What a worker has done so far.
use Rattle.std.proofs.Common.{◌≡◌, ℕ, List, [], ◌∷◌, ◌++◌, sym, ◌∙◌, subst}
use Rattle.nub_rule.specs.Known.{Shape}
use Rattle.nub.specs.Ended.{IsFirst}
use Rattle.job_pool.specs.declared.item.Item.{Item}
use Rattle.job_pool.specs.Batches.{CameOf, Comes}
use Rattle.job_pool.specs.Working.{Worker, HasMoved, HasWorked, IsBetween, puts_of, takes_of}
use Rattle.job_pool.proofs.Moving.{first_between, first_puts, first_takes}
use Rattle.job_pool.proofs.Placing.{came_more, came_nothing}

module _ {T : Type 0} (goes : T → T → Type 0) (p : Shape (Unit {0})) where
  -- since it began, the thread put nothing, and the list has what came of what it took
  pub record SoFar (a b : Worker T) (list : List (Item T)) : Type 0 where
    pub between : (n : ℕ) → IsBetween p n a → IsBetween p n b
    pub no_puts : puts_of b ≡ []
    pub came : CameOf goes (takes_of b) list

  pub begun : (n : ℕ) (a : Worker T) (list : List (Item T)) → IsFirst p (λ w t. []) n a → list ≡ [] → SoFar a a list
  begun n a list first empty = record {
    between = λ k h. h;
    no_puts = first_puts p n a first;
    came = subst (λ l. CameOf goes l list) (sym (first_takes p n a first)) (subst (λ l. CameOf goes [] l) (sym empty) (came_nothing goes));
  }

  -- a call that put and took nothing
  pub goes_on : (a b c : Worker T) (list : List (Item T)) → SoFar a b list → HasMoved p [] [] b c → SoFar a c list
  goes_on a b c list s m = record {
    between = λ n h. m.between n (s.between n h);
    no_puts = m.puts_are ∙ s.no_puts;
    came = subst (λ l. CameOf goes l list) (sym m.takes_are) s.came;
  }

  -- one more was taken, and what came of it is last in the list
  pub took_one : (a b c : Worker T) (list more : List (Item T)) (i j : Item T) → SoFar a b list → HasMoved p [] (i ∷ []) b c → j.place ≡ i.place → Comes goes i.batch j.batch → more ≡ list ++ j ∷ []
      → SoFar a c more
  took_one a b c list more i j s m same comes is = record {
    between = λ n h. m.between n (s.between n h);
    no_puts = m.puts_are ∙ s.no_puts;
    came = subst (λ l. CameOf goes (takes_of c) l) (sym is) (subst (λ l. CameOf goes l (list ++ j ∷ [])) (sym m.takes_are) (came_more goes (takes_of b) list i j same comes s.came));
  }

  pub has_worked : (n : ℕ) (a b : Worker T) (list : List (Item T)) → IsFirst p (λ w t. []) n a → SoFar a b list → HasWorked goes p n list b
  has_worked n a b list first s = record { between = s.between n (first_between p n a first); no_puts = s.no_puts; came = s.came }
