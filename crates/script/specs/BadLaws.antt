-- A bad line stays one: whatever bytes follow, it is not understood.
use Rattle.std.specs.Prelude.{ℕ, true, List, [], ◌∷◌, ◌⊎◌, ◌≡◌}
use Rattle.std.proofs.Common.{arith}
use Rattle.std.proofs.lemmas.Grind.{common_steps}
use Rattle.script.specs.Steps.{opened, may_idle, with_idle, added, ended, taken, arrived, fed_with, text_end, line_end, fed_all, is_bad}
use Rattle.script.specs.declared.Word.{Word}
use Rattle.script.specs.declared.Part.TheVariants.{Strange}
use Rattle.script.specs.declared.Kind.TheVariants.{BadLine}
use Rattle.script.specs.declared.Line.TheVariants.{Unreadable}
use Rattle.script.specs.declared.Words.{Words}
use Rattle.script.specs.declared.Text.{Text}
use Rattle.script.specs.declared.Reader.{Reader}

abbrev Bad : Text → Type 0
Bad t = (t.words.kind ≡ BadLine) ⊎ (t.part ≡ Strange)

abbrev BadSoFar : Reader → Type 0
BadSoFar r = Bad r.text

-- ---- a word that ends leaves a bad line bad
bad_added : (ws : Words) (w : Word) → ws.kind ≡ BadLine → (added ws w).kind ≡ BadLine
unfolding opened may_idle with_idle
bad_added ws w e = grind (arith, common_steps)

ends_bad : (t : Text) → Bad t → (ended t.words t.part).kind ≡ BadLine
unfolding ended
ends_bad t h = grind (arith, common_steps, bad_added)

-- ---- and so does every byte
bad_taken : (t : Text) (b : ℕ) → Bad t → Bad (taken t b)
unfolding taken
bad_taken t b h = grind (arith, common_steps, ends_bad)

bad_arrived : (t : Text) (b : ℕ) → Bad t → BadSoFar (arrived t b)
unfolding arrived
bad_arrived t b h = grind (arith, common_steps, bad_taken)

bad_fed : (r : Reader) (b : ℕ) → BadSoFar r → BadSoFar (fed_with r b)
unfolding fed_with
bad_fed r b h = grind (arith, common_steps, bad_arrived, bad_taken)

bad_all : (r : Reader) (bytes : List ℕ) → BadSoFar r → line_end (fed_all r bytes) ≡ Unreadable
unfolding text_end
bad_all r [] h = grind (arith, common_steps, ends_bad)
bad_all r (b ∷ bytes) h = bad_all (fed_with r b) bytes (bad_fed r b h)

-- ---- so no line is given up that could still be understood
pub bad_stays : (r : Reader) (bytes : List ℕ) → is_bad r ≡ true → line_end (fed_all r bytes) ≡ Unreadable
bad_stays r bytes e = bad_all r bytes (grind (arith, common_steps))
