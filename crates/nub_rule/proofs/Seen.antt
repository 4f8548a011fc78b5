-- What a step tells of a seat, said of the thread as contracts see it; and that the thread stays one.
use Rattle.std.proofs.Common.{◌≡◌, ℕ, ◌<◌, ◌≤◌, List, [], ◌∷◌, length, refl, sym, ap, ◌∙◌, subst, Some}
use Rattle.std.specs.Prelude.{Option as Opt}
use Rattle.atomic_table.specs.Table.{rest}
use Rattle.atomic_table.specs.Seated.{TableId}
use Rattle.nub_rule.specs.declared.package.Entry.{Entry}
use Rattle.nub_rule.specs.declared.rule.Slot.{Slot}
use Rattle.nub_rule.specs.declared.view.Part.{Part}
use Rattle.nub_rule.specs.declared.view.View.{View}
use Rattle.nub_rule.specs.declared.view.Kind.TheVariants.{Member}
use Rattle.nub_rule.specs.declared.rule.Slot.TheVariants.{Value}
use Rattle.nub_rule.specs.Known.{Known, known_as, Hands, IsThread, MayGive, Space}
use Rattle.nub_rule.specs.Places.{most_threads, value_at}
use Rattle.nub_rule.specs.Plays.{Sat, with_part, MayFree}
use Rattle.nub_rule.specs.Slots.{find, IsDistinct, Below, past_first}
use Rattle.nub_rule.proofs.Turns.{keys}
use Rattle.nub_rule.proofs.Handling.{gone, value-found}

module _ {T H W : Type 0} where
  pub as_known : (P : TableId → Sat T H W → Known T H W → Type 0) (z z' : TableId) (n : ℕ) (es : List Entry) (lo : Space) {nx : ℕ} (me me' m : Sat T H W) (a : Known T H W) → known_as z n me es lo nx ≡ a → z' ≡ z → me' ≡ m → P z m (known_as z n me es lo nx) → P z' me' a
  as_known P z z' n es lo me me' m a v ez em base = subst (λ (t : TableId × Sat T H W × Known T H W). P t.0 t.1 t.2) (λ i. (sym ez i, sym em i, v i)) base

  -- only the part has changed
  pub fit_still : (z z' : TableId) (n : ℕ) (hand : List ℕ) (me me' : Sat T H W) (q : Part T H) {kept : List T} {room : ℕ} → z' ≡ z → me' ≡ (with_part me.0 q, me.1) → IsThread z n hand me kept room → length q.held ≡ length me.0.part.held → Hands q me.1 → IsThread z' n hand me' kept room
  fit_still z z' n hand me me' q {kept} {room} ez em f held hands = subst (λ (t : TableId × Sat T H W). IsThread t.0 n hand t.1 kept room) (λ i. (sym ez i, sym em i)) record {
    member = f.member;
    numbered = f.numbered;
    keyed = f.keyed;
    distinct = f.distinct;
    below = f.below;
    wide = held ∙ f.wide;
    hands = hands;
    bare = f.bare;
    roomy = f.roomy;
    few = f.few;
  }

  -- the part and the slots at hand have changed
  pub fit_moved : (z z' : TableId) (n : ℕ) (hand hand' : List ℕ) (me me' : Sat T H W) (q : Part T H) (ds : List (ℕ × Slot T)) {kept : List T} {room : ℕ} → z' ≡ z → me' ≡ (with_part me.0 q, ds) → IsThread z n hand me kept room → keys ds ≡ hand' → IsDistinct ds → Below 256 ds → length q.held ≡ length me.0.part.held → Hands q ds
      → IsThread z' n hand' me' kept room
  fit_moved z z' n hand hand' me me' q ds {kept} {room} ez em f ks d low held hands = subst (λ (t : TableId × Sat T H W). IsThread t.0 n hand' t.1 kept room) (λ i. (sym ez i, sym em i)) record {
    member = f.member;
    numbered = f.numbered;
    keyed = ks;
    distinct = d;
    below = low;
    wide = held ∙ f.wide;
    hands = hands;
    bare = f.bare;
    roomy = f.roomy;
    few = f.few;
  }

module _ {T : Type 0} where
  below_rest : (n : ℕ) (xs : List (ℕ × Slot T)) → Below n xs → Below n (rest xs)
  below_rest n [] b = tt
  below_rest n (x ∷ xs) b = b.1

  keys_rest : (xs : List (ℕ × Slot T)) → keys (rest xs) ≡ past_first (keys xs)
  keys_rest [] = refl
  keys_rest (x ∷ xs) = refl

module _ {T H W : Type 0} where
  -- the slot that was brought to the front is given back
  pub fit_given : (z z' : TableId) (n slot : ℕ) (s : Slot T) (hand hand' : List ℕ) (me me' : Sat T H W) (q : Part T H) (xs : List (ℕ × Slot T)) {kept : List T} {room : ℕ} → z' ≡ z → me' ≡ (with_part me.0 q, rest xs) → (me.0.kind ≡ Member) → (me.0.number ≡ n) → (length me.0.part.held ≡ 64) → kept ≡ [] → (n ≡ 0 → z.slots ≤ value_at room) → n < most_threads
      → keys xs ≡ hand → hand' ≡ past_first hand → IsDistinct xs → Below 256 xs → xs ≡ (slot, s) ∷ rest xs → length q.held ≡ length me.0.part.held → Hands q (rest xs) → IsThread z' n hand' me' kept room
  fit_given z z' n slot s hand hand' me me' q xs {kept} {room} ez em kind number wide bare roomy few ks hs d low first held hands = subst (λ (t : TableId × Sat T H W). IsThread t.0 n hand' t.1 kept room) (λ i. (sym ez i, sym em i)) record {
    member = kind;
    numbered = number;
    keyed = keys_rest xs ∙ (ap past_first ks ∙ sym hs);
    distinct = (gone slot xs s d first).2;
    below = below_rest 256 xs low;
    wide = held ∙ wide;
    hands = hands;
    bare = bare;
    roomy = roomy;
    few = few;
  }

module _ {T H W : Type 0} where
  -- a thread that may give a mutex back, with its slot brought to the front
  pub may_free : (allows : W → ℕ → ℕ → T → T → H → H → Type 0) (after : W → ℕ → ℕ → T → T → H → H) (m : ℕ) (z : TableId) (n : ℕ) (es : List Entry) (lo : Space) {nx : ℕ} (me : Sat T H W) (k : Known T H W) (v : View T H W) (ds : List (ℕ × Slot T))
      → known_as z n me es lo nx ≡ k → me.0.number ≡ n → v ≡ me.0 → ((s : Slot T) → find (value_at m) me.1 ≡ Some s → ds ≡ (value_at m, s) ∷ rest ds) → MayGive allows after m k → MayFree allows after m (v, ds)
  may_free allows after m z n es lo me k v ds is number same first may = let t = subst (λ (j : Known T H W). MayGive allows after m j) (sym is) may in
      subst (λ (v : View T H W). MayFree allows after m (v, ds)) (sym same)
      (t.0, t.1, t.2, first (Value (Some t.1)) (value-found m (Some t.1) me.1 t.3), λ w s world share. subst (λ (i : ℕ). allows w m i t.0 t.1 s (after w m i t.0 t.1 s)) (sym number) (t.4 w s world share))

pub value_of : {T : Type 0} (a b : Opt T) → (let s : Slot T = Value a in s) ≡ Value b → a ≡ b
value_of a b e = cc
