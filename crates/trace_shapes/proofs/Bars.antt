-- The pieces of bars, numbers and failing marks, as they are put.
use Rattle.std.proofs.Common.{◌≡◌, ℕ, ◌+◌, ◌-◌, List, ◌++◌, ap, ◌∙◌}
use Rattle.std.specs.Prelude.{codes}
use Rattle.larch_actions.specs.declared.event.Event.{Event}
use Rattle.larch_actions.specs.declared.event.Broken.{Broken}
use Rattle.trace_board.specs.declared.history.Origin.{Origin}
use Rattle.trace_board.specs.declared.marks.Effects.{Effects}
use Rattle.trace_board.specs.Marks.{marks}
use Rattle.trace_shapes.specs.declared.view.Band.{Band}
use Rattle.trace_shapes.specs.declared.view.Reach.{Reach}
use Rattle.trace_shapes.specs.declared.view.Strip.{Strip}
use Rattle.trace_shapes.specs.declared.geometry.TheConstants.{LETTER_LINE, NAME_LEFT, NAME_LINE}
use Rattle.trace_shapes.specs.Places.{kind_in, wait_line, event_x, mark_y, row_y, lane_y, bar_x, bar_width, wait_x, wait_end}
use Rattle.trace_shapes.specs.Shapes.{with_number, box_text, place_text, span_text, given_text, bar_box, bar_name, bar_text, taken_text, wait_y, wait_name, wait_tag, wait_part, let_go_x, out_text, digits_of, number_left, object_text, failed_mark, line_of, clause_word}
use Rattle.trace_shapes.proofs.Added.{added_four, added_five, added_six}

pub added_bar_box : (r : Reach) (s : Strip) (x y w : ℕ) (old a : List ℕ) → x ≡ bar_x r s.since → y ≡ lane_y r.band s.since.thread.0 s.lane → w ≡ bar_width r s.since
    → a ≡ old ++ box_text x y w → a ≡ old ++ bar_box r s
unfolding bar_box
added_bar_box r s x y w old a same_x same_y same_w one = one ∙ (λ i. old ++ box_text (same_x i) (same_y i) (same_w i))

pub added_bar_name : (name : List ℕ) (r : Reach) (s : Strip) (x y k : ℕ) (old a b c d : List ℕ) → x ≡ bar_x r s.since → y ≡ lane_y r.band s.since.thread.0 s.lane → k ≡ s.number
    → a ≡ old ++ codes "</title></rect><text class='x" → b ≡ a ++ place_text (x + NAME_LEFT) (y + NAME_LINE) → c ≡ b ++ with_number name k → d ≡ c ++ codes "</text>\n"
    → d ≡ old ++ bar_name name r s
unfolding bar_name
added_bar_name name r s x y k old a b c d same_x same_y same one two three four =
    let shape : ℕ → ℕ → ℕ → List ℕ = λ u v z. codes "</title></rect><text class='x" ++ place_text (u + NAME_LEFT) (v + NAME_LINE) ++ with_number name z ++ codes "</text>\n" in
    added_four old a b c _ _ _ _ (codes "") one two three d four ∙ (λ i. old ++ shape (same_x i) (same_y i) (same i))

pub added_bar : (r : Reach) (s : Strip) (m : ℕ) (old a b c d e f : List ℕ) → m ≡ s.number
    → a ≡ old ++ with_number (codes "<rect class='m") m → b ≡ a ++ bar_box r s → c ≡ b ++ with_number (codes "' height='12' rx='2'><title>m") m → d ≡ c ++ span_text (codes " held by t") r s.since
    → e ≡ d ++ given_text s.since.thread.0 s.given → f ≡ e ++ bar_name (codes "'>m") r s
    → f ≡ old ++ bar_text r s
unfolding bar_text
added_bar r s m old a b c d e f same_m one two three four five six =
    let shape : ℕ → List ℕ = λ k. with_number (codes "<rect class='m") k ++ bar_box r s ++ with_number (codes "' height='12' rx='2'><title>m") k ++ span_text (codes " held by t") r s.since ++ given_text s.since.thread.0 s.given ++ bar_name (codes "'>m") r s in
    added_six old a b c _ _ _ _ _ one two three d e f _ four five six ∙ (λ i. old ++ shape (same_m i))

pub added_taken : (r : Reach) (x : Strip) (s : ℕ) (old a b c d e : List ℕ) → s ≡ x.number
    → a ≡ old ++ codes "<rect class='e" → b ≡ a ++ bar_box r x → c ≡ b ++ with_number (codes "' height='12' rx='2'><title>s") s → d ≡ c ++ span_text (codes " taken by t") r x.since → e ≡ d ++ bar_name (codes "'>s") r x
    → e ≡ old ++ taken_text r x
unfolding taken_text
added_taken r x s old a b c d e same one two three four five =
    let shape : ℕ → List ℕ = λ k. codes "<rect class='e" ++ bar_box r x ++ with_number (codes "' height='12' rx='2'><title>s") k ++ span_text (codes " taken by t") r x.since ++ bar_name (codes "'>s") r x in
    added_five old a b c _ _ _ _ _ one two three d e four five ∙ (λ i. old ++ shape (same i))

pub added_wait_part : (tag : List ℕ) (r : Reach) (o : Origin) (x end y w k : ℕ) (high old a b c d : List ℕ) → y ≡ wait_y r o → w ≡ end - x → high ≡ wait_tag (kind_in r.band o.thread.0) → k ≡ o.object
    → a ≡ old ++ tag → b ≡ a ++ box_text x y w → c ≡ b ++ with_number high k → d ≡ c ++ span_text (codes " of t") r o
    → d ≡ old ++ wait_part tag r o x end
unfolding wait_part
added_wait_part tag r o x end y w k high old a b c d same_y same_w same_high same one two three four =
    added_four old a b c _ _ _ _ (codes "") one two three d four ∙ (λ i. old ++ (tag ++ box_text x (same_y i) (same_w i) ++ with_number (same_high i) (same i) ++ span_text (codes " of t") r o))

pub added_out : (r : Reach) (o p : Origin) (x end t : ℕ) (old a b c d : List ℕ) → x ≡ let_go_x r o p → end ≡ wait_end r → t ≡ p.thread.0
    → a ≡ old ++ wait_part (codes "<rect class='d") r o x end → b ≡ a ++ with_number (codes ", let go on by event ") p.place → c ≡ b ++ with_number (codes " of t") t → d ≡ c ++ codes "</title></rect>\n"
    → d ≡ old ++ out_text r o p
unfolding out_text
added_out r o p x end t old a b c d same_x same_end same one two three four =
    added_four old a b c _ _ _ _ (codes "") one two three d four
    ∙ (λ i. old ++ (wait_part (codes "<rect class='d") r o (same_x i) (same_end i) ++ with_number (codes ", let go on by event ") p.place ++ with_number (codes " of t") (same i) ++ codes "</title></rect>\n"))

pub added_wait_name : (r : Reach) (o : Origin) (x y k : ℕ) (old a b c d : List ℕ) → x ≡ wait_x r o → y ≡ wait_y r o + wait_line (kind_in r.band o.thread.0) → k ≡ o.object
    → a ≡ old ++ codes "<text class='hx" → b ≡ a ++ place_text (x + NAME_LEFT) y → c ≡ b ++ with_number (codes "'>c") k → d ≡ c ++ codes "</text>\n"
    → d ≡ old ++ wait_name r o
unfolding wait_name
added_wait_name r o x y k old a b c d same_x same_y same one two three four =
    let shape : ℕ → ℕ → ℕ → List ℕ = λ u v z. codes "<text class='hx" ++ place_text (u + NAME_LEFT) v ++ with_number (codes "'>c") z ++ codes "</text>\n" in
    added_four old a b c _ _ _ _ (codes "") one two three d four ∙ (λ i. old ++ shape (same_x i) (same_y i) (same i))

pub added_object : (v : Band) (n : ℕ) (e : Event) (g x l y k : ℕ) (m : Effects) (old a b c d : List ℕ) → g ≡ digits_of m.object → x ≡ event_x v n → l ≡ number_left m.object → y ≡ row_y v e.thread.0 → m ≡ marks e → k ≡ m.object
    → a ≡ old ++ with_number (codes "<text class='s") g → b ≡ a ++ place_text (x + l) (y + LETTER_LINE) → c ≡ b ++ with_number (codes "'>") k → d ≡ c ++ codes "</text>\n"
    → d ≡ old ++ object_text v n e
unfolding object_text
added_object v n e g x l y k m old a b c d same_g same_x same_l same_y is same one two three four =
    let shape : ℕ → ℕ → ℕ → ℕ → ℕ → List ℕ = λ q u p w z. with_number (codes "<text class='s") q ++ place_text (u + p) (w + LETTER_LINE) ++ with_number (codes "'>") z ++ codes "</text>\n" in
    let digits : g ≡ digits_of (marks e).object = same_g ∙ ap (λ z. digits_of z.object) is in
    let left : l ≡ number_left (marks e).object = same_l ∙ ap (λ z. number_left z.object) is in
    let number : k ≡ (marks e).object = same ∙ ap (λ z. z.object) is in
    added_four old a b c _ _ _ _ (codes "") one two three d four ∙ (λ i. old ++ shape (digits i) (same_x i) (left i) (same_y i) (number i))

pub added_failed : (v : Band) (n : ℕ) (e : Event) (why : Broken) (old a b c d f : List ℕ)
    → a ≡ old ++ codes "<use href='#F" → b ≡ a ++ place_text (event_x v n) (mark_y v e.thread.0) → c ≡ b ++ (codes "'><title>" ++ line_of n e) → d ≡ c ++ (codes " fails " ++ clause_word why) → f ≡ d ++ codes "</title></use>\n"
    → f ≡ old ++ failed_mark v n e why
unfolding failed_mark
added_failed v n e why old a b c d f one two three four five = added_five old a b c _ _ _ _ _ one two three d f four five
