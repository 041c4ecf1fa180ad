use Rattle.done_words.proofs.Touched.{target_small, has_word}
use Rattle.done_words.proofs.laws.cells_have_words.Goals as goal

pub returns : goal.returns
returns c = λ w d cell sound reached inside target. has_word w ∣ sound ∣₁ d reached cell (record { inside = inside; target = target; small = target_small w sound.fit cell target })
