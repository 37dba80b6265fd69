-- From what the core of replay gives for a box of words to what the function for C gives for the box of slots behind it.
use Rattle.std.specs.Prelude.{ℕ, Bool, true, false, List, ◌≡◌, refl, length, get_or}
use Rattle.std.proofs.Common.{ap, ◌∙◌}
use Rattle.numbers.specs.Limits.{SLOTS}
use Rattle.numbers.specs.Meaning.{number_of}
use Rattle.model.specs.Header.{Lists}
use Rattle.model.specs.State.{State}
use Rattle.replay.specs.Replay.{replay}
use Rattle.box_header.specs.Numbers.{changed}
use Rattle.box_cores.specs.Boxes.{Box, box, box_with, state_in}
use Rattle.box_cores.specs.Given.{Judgement, met, unmet, not_valid_answer, Whole, same}
use Rattle.box_laws.specs.BoxLaws.{same_state, valid_slots, valid_whole, valid_words, stored_new, stored_unjudged}
use Rattle.box_replay.specs.Given.{ReplayGiven, replay_given, ReplayAsked, replayed_by, replay_gives, replay_not_valid}
use Rattle.slots.specs.Slots.{words, slots_of, loaded, stored}
use Rattle.slots.specs.declared.Slot.{Slot}

module _ (header : List ℕ) (l : Lists) (cpuSlots dmaSlots : List Slot) (c : l.cpu_cache ≡ loaded SLOTS cpuSlots) (d : l.dma_cache ≡ loaded SLOTS dmaSlots)
    (header' : List ℕ) (l' : Lists) (cpuLength : length l'.cpu_cache ≡ SLOTS) (dmaLength : length l'.dma_cache ≡ SLOTS) (stores : Bool) where
  abbrev of_slots : Box (List Slot)
  of_slots = box header l.sets l.pairs l.cpu_map l.cpu_walker cpuSlots l.dma_map l.dma_walker dmaSlots l.memory

  abbrev of_words : Box (List ℕ)
  of_words = box_with header l

  abbrev left_words : Box (List ℕ)
  left_words = box_with header' l'

  abbrev left_with : List Slot → List Slot → Box (List Slot)
  left_with cpu dma = box header' l'.sets l'.pairs l'.cpu_map l'.cpu_walker cpu l'.dma_map l'.dma_walker dma l'.memory

  abbrev left_slots : Box (List Slot)
  left_slots = left_with (stored stores l'.cpu_cache cpuSlots) (stored stores l'.dma_cache dmaSlots)

  module _ (number : ℕ) (place' answers' taken' log place : List ℕ) (most : ℕ) (answers taken : List ℕ) where
    abbrev gave : {C : Type 0} → Box C → ReplayGiven C
    gave b = replay_given number place' answers' taken' b

    abbrev Asked : Type 0
    Asked = Whole (length cpuSlots) (length dmaSlots) × ReplayAsked same of_words place taken

    -- what is given of words is given of the slots that are stored
    joined : {stores' : Bool} → stores ≡ stores' → (x : ReplayGiven (List ℕ)) (y : Box (List Slot)) → gave left_words ≡ x
        → left_with (stored stores' l'.cpu_cache cpuSlots) (stored stores' l'.dma_cache dmaSlots) ≡ y
        → gave left_slots ≡ replay_given x.number x.place x.answers x.taken y
    joined z x y e k = rw z (λ i. replay_given (e i).number (e i).place (e i).answers (e i).taken (k i))

    -- the state of the words is that of the slots
    carried : Asked → ReplayAsked words of_slots place taken
    carried (w, a) = record { box = valid_slots header l.sets l.pairs l.cpu_map l.cpu_walker cpuSlots l.dma_map l.dma_walker dmaSlots l.memory l.cpu_cache l.dma_cache c d w a.box; one_place = a.one_place; one_taken = a.one_taken }

    fetched : ReplayAsked words of_slots place taken → Asked
    fetched a = (
      valid_whole header l.sets l.pairs l.cpu_map l.cpu_walker cpuSlots l.dma_map l.dma_walker dmaSlots l.memory l.cpu_cache l.dma_cache c d a.box,
      record { box = valid_words header l.sets l.pairs l.cpu_map l.cpu_walker cpuSlots l.dma_map l.dma_walker dmaSlots l.memory l.cpu_cache l.dma_cache c d a.box; one_place = a.one_place; one_taken = a.one_taken },
    )

    slots_given : Judgement Asked (replay_gives same same of_words log place most answers) (replay_not_valid of_words place answers taken) (gave left_words) × Judgement Asked true false stores
        → Judgement (ReplayAsked words of_slots place taken) (replay_gives words slots_of of_slots log place most answers) (replay_not_valid of_slots place answers taken) (gave left_slots)
    slots_given (met (w, a) e, met b z) =
        let s = (replay (state_in same of_words) log (get_or place 0 0) most answers).course.state in
        met (carried (w, a))
        (joined z _ _ e (stored_new header l.sets l.pairs l.cpu_map l.cpu_walker cpuSlots l.dma_map l.dma_walker dmaSlots l.memory l.cpu_cache l.dma_cache c d header' l'.sets l'.pairs l'.cpu_map l'.cpu_walker l'.cpu_cache l'.dma_map l'.dma_walker l'.dma_cache l'.memory cpuLength dmaLength 0 w refl (changed header s.tables) s (ap (λ (g : ReplayGiven (List ℕ)). g.box) e))
        ∙ ap (λ (x : State). replayed_by slots_of of_slots (replay x log (get_or place 0 0) most answers)) (same_state header l.sets l.pairs l.cpu_map l.cpu_walker cpuSlots l.dma_map l.dma_walker dmaSlots l.memory l.cpu_cache l.dma_cache c d w))
    slots_given (unmet n e, unmet m z) =
        unmet (λ a. n (fetched a))
        (joined z _ _ e (stored_unjudged header l.sets l.pairs l.cpu_map l.cpu_walker cpuSlots l.dma_map l.dma_walker dmaSlots l.memory l.cpu_cache l.dma_cache c d header' l'.sets l'.pairs l'.cpu_map l'.cpu_walker l'.cpu_cache l'.dma_map l'.dma_walker l'.dma_cache l'.memory cpuLength dmaLength (number_of not_valid_answer) header refl (ap (λ (g : ReplayGiven (List ℕ)). g.box) e)))
    slots_given (met a e, unmet n z) = absurd (n a)
    slots_given (unmet n e, met a z) = absurd (n a)

    -- the same as the code has it: each list is what is left behind the slice that was lent
    pub replay_slots : {sets' pairs' cpu_map' cpu_walker' cpuLeft dma_map' dma_walker' dmaLeft memory' : List ℕ} {cpuAfter dmaAfter : List Slot}
        → (sets' ≡ l'.sets) × (pairs' ≡ l'.pairs) × (cpu_map' ≡ l'.cpu_map) × (cpu_walker' ≡ l'.cpu_walker) × (cpuLeft ≡ l'.cpu_cache)
        × (dma_map' ≡ l'.dma_map) × (dma_walker' ≡ l'.dma_walker) × (dmaLeft ≡ l'.dma_cache) × (memory' ≡ l'.memory)
        → cpuAfter ≡ stored stores cpuLeft cpuSlots → dmaAfter ≡ stored stores dmaLeft dmaSlots
        → Judgement Asked (replay_gives same same of_words log place most answers) (replay_not_valid of_words place answers taken) (gave left_words) × Judgement Asked true false stores
        → Judgement (ReplayAsked words of_slots place taken) (replay_gives words slots_of of_slots log place most answers) (replay_not_valid of_slots place answers taken)
        (gave (box header' sets' pairs' cpu_map' cpu_walker' cpuAfter dma_map' dma_walker' dmaAfter memory'))
    replay_slots e f g j = rw (f, g, e.0, e.1, e.2, e.3, e.4, e.5, e.6, e.7, e.8) (slots_given j)
