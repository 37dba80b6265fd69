-- Secrecy of one step, from valid tables and what the step owes: who reaches a private page is a member, two memories that
-- agree outside the private pages still do, and a word of a page that stays private changes only by a member's own write.
use Prim.{tt}
use Prim.Native.Nat.{ℕ, zero, suc, ◌<◌}
use mathlib.Core.Bool.{Bool, true, false, true≢false}
use mathlib.Core.List.{List, [], ◌∷◌}
use mathlib.Core.Logic.{◌⊎◌, inl, inr, ⊎_elim}
use Rattle.std.specs.Prelude.{Some, Ok, Err}
use mathlib.Core.Path.{◌≡◌, refl, sym, ◌∙◌}
use lib.ListN.{length, length-set}
use Rattle.numbers.specs.CaseLaws.{cases, equal}
use Rattle.numbers.specs.Limits.{VMS, PAGE_WORDS, READ, WRITE}
use Rattle.numbers.specs.Packing.{left_of, right_of, page_of}
use Rattle.numbers.specs.Meaning.{Answer}
use Rattle.numbers.specs.declared.Operation.{Operation}
use Rattle.table.specs.Table.{Has}
use Rattle.model.specs.State.{Tables}
use Rattle.model.specs.Effect.{word_in, Place, Store, Effect, reads, writes, clears, stored, loaded, apply, Control, accepted}
use Rattle.model.specs.Step.{answer_with}
use Rattle.model.specs.KnownLaws.{knows_below}
use Rattle.model.specs.Valid.{ValidTables}
use Rattle.model.specs.Good.{holds_page, PlaceOn, PageIn, Wrote, Way, own, lent, span, MayReach, sharing, Made, Good}
use Rattle.model.specs.MemoryLaws.{store_elsewhere, store_both}
use Rattle.model.specs.Secrecy.{Private, NearStores, stop, same, other, Near, alike, stores, Seen, SameRead}
use Rattle.model.proofs.ViewLaws.{shares_lends}
use Rattle.model.proofs.PagesKept.{one_holder, span_unheld}
use Rattle.model.proofs.EffectLaws.{Inside, PlacesInside, StoresInside, store_on, listed, stored_or_same, uncleared_same, cleared_agrees}

-- all that secrecy asks of a step
pub record Sound (t : Tables) (operation : Operation) (c : Control) : Type 0 where
  pub good : Good t operation c
  pub inside : Inside c.effect
  pub setup : c.tables.setup ≡ t.setup

-- ---- stores of the same words, whose values differ only on private pages
module _ (members : ℕ → Bool) (t : Tables) (vm : ℕ) where
  same_stores : {xs ys : List Store} → NearStores members (Private members) t vm xs ys → StoresInside xs → (page word : ℕ) → word < PAGE_WORDS → (Private members t page → ⊥) →
      (c d : List ℕ) → length c ≡ length d → word_in c page word ≡ word_in d page word → word_in (stored xs c) page word ≡ word_in (stored ys d) page word
  unfolding stored
  same_stores stop i page word h n c d l e = e
  same_stores (same {x = x} near) i page word h n c d l e =
      same_stores near i.1 page word h n _ _ (length-set c _ _ ∙ l ∙ sym (length-set d _ _)) (store_both c d _ x.value page word l e)
  same_stores (other {place = place} {a = x} {b = y} m p near) i page word h n c d l e =
      let apart : place.page ≡ page → ⊥ = λ q. n (rw q at p) in
      same_stores near i.1 page word h n _ _ (length-set c _ _ ∙ l ∙ sym (length-set d _ _))
      (store_elsewhere c place.page place.word x page word i.0 h apart ∙ e ∙ sym (store_elsewhere d place.page place.word y page word i.0 h apart))

  all_same : (xs : List Store) → NearStores members (Private members) t vm xs xs
  all_same [] = stop
  all_same (x ∷ xs) = same (all_same xs)

-- ---- a step from valid tables
module _ (members : ℕ → Bool) (t : Tables) (v : ValidTables t) where
  -- who reaches a private page is a member
  pub confined : (vm page : ℕ) → Private members t page → MayReach t vm page → members vm ≡ true
  confined vm page p r = go r.way
    where
      go : Way t vm page → members vm ≡ true
      go (own h) = rw (one_holder _ _ _ _ _ v.pages p.holder vm page p.holder_ok r.vm_ok p.page_ok p.held h) at p.member
      go (lent s) =
          let (w, l) = shares_lends t.pairs vm page s in
          let both = p.inside w l.there l.same in
          ⊎_elim (λ e. rw e at both.0) (λ e. rw e at both.1) l.end
      go (span s) = absurd (span_unheld _ _ _ _ _ v.pages p.holder page p.holder_ok p.page_ok s p.held)

  module _ (operation : Operation) (answer : Answer) (new : Tables) where
    abbrev SoundWith : Effect → Type 0
    SoundWith effect = Sound t operation (record { answer = answer; tables = new; effect = effect })

    -- ---- within one run: a page private before and after changes only by a member's own write
    pub only_own : (effect : Effect) → SoundWith effect → (memory : List ℕ) (page word : ℕ) → word < PAGE_WORDS → Private members t page → Private members new page →
        (word_in (apply effect memory) page word ≡ word_in memory page word) ⊎ ((vm : ℕ) × (members vm ≡ true) × Wrote effect vm page word)
    unfolding apply
    only_own (reads vm places) s memory page word h p p' = inl refl
    only_own (writes vm xs) s memory page word h p p' =
        ⊎_elim inl (λ o. inr (vm, confined vm page p (s.good.reach WRITE vm page (refl, refl, store_on page word xs o)).may, (refl, o))) (stored_or_same page word h xs memory s.inside)
    only_own (clears pages) s memory page word h p p' =
        inl (uncleared_same page word h pages memory (λ c. s.good.free p'.holder page p'.holder_ok p.page_ok c p'.held))

    -- and no effect writes a word of a private page for a VM outside
    pub no_outsider : (effect : Effect) → SoundWith effect → (vm page word : ℕ) → Private members t page → members vm ≡ false → Wrote effect vm page word → ⊥
    no_outsider (reads w places) s vm page word p outside z = z
    no_outsider (writes w xs) s vm page word p outside (e, o) = true≢false (sym (confined vm page p (s.good.reach WRITE vm page (refl, e, store_on page word xs o)).may) ∙ outside)
    no_outsider (clears pages) s vm page word p outside z = z

    -- ---- two memories that agree outside the private pages
    module _ (a b : List ℕ) (words : (page word : ℕ) → word < PAGE_WORDS → (Private members t page → ⊥) → word_in a page word ≡ word_in b page word) where
      -- give a read equal words but at the places where a member reads a private page
      words_same : (vm : ℕ) (places : List Place) → ((page : ℕ) → PlaceOn page places → MayReach t vm page) → PlacesInside places → SameRead members (Private members) t (reads vm places) a b
      unfolding loaded
      words_same vm [] r i k n = refl
      words_same vm (x ∷ xs) r i zero n = words x.page x.word i.0 (λ p. n (confined vm x.page p (r x.page (inl refl)), p))
      words_same vm (x ∷ xs) r i (suc k) n = words_same vm xs (λ page o. r page (inr o)) i.1 k n

      pub same_read : (effect : Effect) → SoundWith effect → SameRead members (Private members) t effect a b
      same_read (reads vm places) s k n = words_same vm places (λ page o. (s.good.reach READ vm page (refl, refl, o)).may) s.inside k n
      same_read (writes vm xs) s k n = refl
      same_read (clears pages) s k n = refl

      pub same_answer : (effect : Effect) → SoundWith effect → (Seen members (Private members) t effect 0 → ⊥) → (x : Answer) → answer_with effect a x ≡ answer_with effect b x
      same_answer (reads vm places) s n (Ok ok) = rw (same_read (reads vm places) s 0 n)
      same_answer (reads vm places) s n (Err err) = refl
      same_answer (writes vm xs) s n x = refl
      same_answer (clears pages) s n x = refl

      -- a page that was not cleared stays private, unless a member shares it with a VM outside
      module _ (shown : (left right page word : ℕ) → sharing operation ≡ Some (record { left = left; right = right; page = page }) → answer ≡ accepted → members left ≡ true → members right ≡ false → word < PAGE_WORDS → word_in a page word ≡ word_in b page word) where
        stays_private : (pages : List ℕ) → SoundWith (clears pages) → (page word : ℕ) → word < PAGE_WORDS → (word_in a page word ≡ word_in b page word → ⊥) → (PageIn page pages → ⊥) → Private members t page → Private members new page
        stays_private pages s page word h differ uncleared p =
            record {
              holder = p.holder;
              member = p.member;
              holder_ok = p.holder_ok;
              page_ok = rw s.setup p.page_ok;
              held = ⊎_elim (λ t. t) (λ f. absurd (uncleared (s.good.wiped p.holder page p.holder_ok p.page_ok p.held f))) (cases (holds_page new.sets p.holder page));
              inside = λ w k on. ⊎_elim (λ old. p.inside w old on) (made w k on) (s.good.edges w k);
            }
          where
            made : (w : ℕ) → Has new.pairs w → page_of w ≡ page → Made t operation answer w → (members (left_of w) ≡ true) × (members (right_of w) ≡ true)
            made w k on m =
                let below : left_of w < VMS = knows_below _ (left_of w) s.good.valid.known (s.good.valid.pairs.each w k).left in
                let held : holds_page t.sets (left_of w) page ≡ true = rw (← on, m.owned) in
                let left : members (left_of w) ≡ true = confined (left_of w) page p (record { vm_ok = below; page_ok = p.page_ok; way = own held }) in
                ⊎_elim (λ right. (left, right)) (λ outside. absurd (differ (rw on at (shown (left_of w) (right_of w) (page_of w) word m.share m.agreed left outside h)))) (cases (members (right_of w)))

        written : (vm : ℕ) {xs ys : List Store} → length a ≡ length b → SoundWith (writes vm xs) → NearStores members (Private members) t vm xs ys → (page word : ℕ) → word < PAGE_WORDS → (Private members new page → ⊥) →
            word_in (stored xs a) page word ≡ word_in (stored ys b) page word
        written vm size s near page word h n =
            let before : Private members t page → ⊥ = λ p. n (rw (s.good.still tt) p) in
            same_stores members t vm near s.inside page word h before a b size (words page word h before)

        -- near effects leave every word outside the pages then private equal
        pub same_words : {effect effect' : Effect} → length a ≡ length b → SoundWith effect → Near members (Private members) t effect effect' → (page word : ℕ) → word < PAGE_WORDS → (Private members new page → ⊥) →
            word_in (apply effect a) page word ≡ word_in (apply effect' b) page word
        unfolding apply
        same_words size s (stores {vm = vm} near) page word h n = written vm size s near page word h n
        same_words {effect = effect} size s alike page word h n = go effect s
          where
            go : (effect : Effect) → SoundWith effect → word_in (apply effect a) page word ≡ word_in (apply effect b) page word
            go (reads vm places) s = words page word h (λ p. n (rw (s.good.still tt) p))
            go (writes vm xs) s = written vm size s (all_same members t vm xs) page word h n
            go (clears pages) s = cleared_agrees page word h pages a b (⊎_elim inr (λ differ. ⊎_elim inl (λ uncleared. inr (stayed differ uncleared)) (listed page pages)) (equal (word_in a page word) (word_in b page word)))
              where
                stayed : (word_in a page word ≡ word_in b page word → ⊥) → (PageIn page pages → ⊥) → word_in a page word ≡ word_in b page word
                stayed differ uncleared = words page word h (λ p. n (stays_private pages s page word h differ uncleared p))
