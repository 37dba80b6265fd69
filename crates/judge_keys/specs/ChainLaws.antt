-- Laws of chains and of walks along them.
use Rattle.std.specs.Prelude.{ℕ, suc, ◌+◌, ◌≤◌, ◌<◌, List, Some, ◌≡◌, refl, ltb, length, get_or, set, replicate}
use Rattle.std.proofs.Common.{⊎_elim, sym, ◌∙◌, arith, length-set, get_or-set_same, get_or-set_other, ltb-true, ltb-false}
use Rattle.std.proofs.lemmas.List.{length-replicate, get_or-replicate}
use Rattle.numbers.specs.CaseLaws.{cases, equal}
use Rattle.judge_keys.specs.Keys.{CLASSES, class_of, InClass, Each, Last, Links, Chained, Chain, WalksOn}

pub class_small : (w : ℕ) → class_of w < CLASSES
unfolding class_of
class_small w = omega arith

-- ---- building the chains
pub chain_start : (ws head next : List ℕ) → head ≡ replicate CLASSES 0 → length next ≡ length ws → Chained ws head next 0
chain_start ws head next e l =
    record {
      links = record { within = omega arith; places = l; nexts = λ j h. absurd (omega arith) };
      classes = rw e (length-replicate {A = ℕ} CLASSES 0);
      heads = λ c h. rw (e, get_or-replicate {A = ℕ} CLASSES c 0 0 h) (record { below = omega arith; on = λ p q. absurd (omega arith); none = λ k a b. absurd (omega arith) });
    }

-- a place that is not of the class is passed over
last_skip : (ws : List ℕ) (c i r : ℕ) → (InClass ws c i → ⊥) → Last ws c i r → Last ws c (i + 1) r
last_skip ws c i r n l =
    record {
      below = omega (arith, l.below);
      on = l.on;
      none = λ k a b q. ⊎_elim (λ e. n (rw e at q)) (λ d. l.none k a (omega arith) q) (equal k i);
    }

last_here : (ws : List ℕ) (c i : ℕ) → InClass ws c i → Last ws c (i + 1) (i + 1)
last_here ws c i r =
    record {
      below = omega arith;
      on = λ p q. let e : p ≡ i = omega arith in rw e r;
      none = λ k a b. absurd (omega arith);
    }

module _ (ws head next : List ℕ) (i : ℕ) (l : Chained ws head next i) (h : i < length ws) where
  -- an empty place changes nothing
  pub chain_skip : get_or ws i 0 ≡ 0 → Chained ws head next (i + 1)
  chain_skip z =
      record {
        links = record {
          within = omega arith;
          places = l.links.places;
          nexts = λ j b f. ⊎_elim (λ e. absurd (f (rw e z))) (λ d. l.links.nexts j (omega arith) f) (equal j i);
        };
        classes = l.classes;
        heads = λ c b. last_skip ws c i (get_or head c 0) (λ r. r.filled z) (l.heads c b);
      }

  -- a filled one is put in front of its class's chain
  pub chain_next : (get_or ws i 0 ≡ 0 → ⊥) → Chained ws (set head (class_of (get_or ws i 0)) (i + 1)) (set next i (get_or head (class_of (get_or ws i 0)) 0)) (i + 1)
  chain_next full =
      record {
        links = record {
          within = omega arith;
          places = length-set next i _ ∙ l.links.places;
          nexts = λ j b f. ⊎_elim (here j) (there j b f) (equal j i);
        };
        classes = length-set head _ (i + 1) ∙ l.classes;
        heads = λ c b. ⊎_elim (same c) (other c b) (equal c own);
      }
    where
      own : ℕ
      own = class_of (get_or ws i 0)

      small : own < length head
      small = omega (arith, l.classes, class_small (get_or ws i 0))

      room : i < length next
      room = omega (arith, l.links.places)

      same : (c : ℕ) → c ≡ own → Last ws c (i + 1) (get_or (set head own (i + 1)) c 0)
      same c e = rw (e, get_or-set_same head own (i + 1) 0 small) (last_here ws own i (record { within = h; filled = full; class = refl }))

      other : (c : ℕ) → c < CLASSES → (c ≡ own → ⊥) → Last ws c (i + 1) (get_or (set head own (i + 1)) c 0)
      other c b n = rw (get_or-set_other head own c (i + 1) 0 n) (last_skip ws c i (get_or head c 0) (λ r. n (sym r.class)) (l.heads c b))

      here : (j : ℕ) → j ≡ i → Last ws (class_of (get_or ws j 0)) j (get_or (set next i (get_or head own 0)) j 0)
      here j e = rw (e, get_or-set_same next i (get_or head own 0) 0 room) (l.heads own (class_small (get_or ws i 0)))

      there : (j : ℕ) → j < i + 1 → (get_or ws j 0 ≡ 0 → ⊥) → (j ≡ i → ⊥) → Last ws (class_of (get_or ws j 0)) j (get_or (set next i (get_or head own 0)) j 0)
      there j b f n = rw (get_or-set_other next i j (get_or head own 0) 0 n) (l.links.nexts j (omega arith) f)

-- ---- walks
-- a walk stands at a place of the class, or has come to the end
pub record Standing (ws : List ℕ) (c at : ℕ) : Type 0 where
  pub below : at ≤ length ws
  pub on : (p : ℕ) → at ≡ suc p → InClass ws c p

module _ (ws next : List ℕ) (c : ℕ) where
  pub walk_start : (from : ℕ) → Chain ws next c from → Standing ws c from
  walk_start from r = record { below = r.head.below; on = r.head.on }

  -- a step at a place
  module _ (at spot on : ℕ) (l : Links ws next (length ws)) (s : WalksOn next at (Some spot) on) (r : Standing ws c at) where
    pub walk_on : InClass ws c spot
    walk_on = r.on spot (omega arith)

    step : Last ws c spot on
    step = rw (s.1, sym walk_on.class) (l.nexts spot walk_on.within walk_on.filled)

    pub walk_next : Standing ws c on
    walk_next = record { below = omega (arith, step.below, r.below); on = step.on }

    pub walk_less : on < at
    walk_less = omega (arith, step.below)

    -- passes over no place of the class
    pub walk_seen : (k : ℕ) → on ≤ k → InClass ws c k → (k ≡ spot → ⊥) → at ≤ k
    walk_seen k a q d = ⊎_elim (λ t. absurd (step.none k a (ltb-true _ _ t) q)) (λ f. omega (arith, ltb-false k spot f)) (cases (ltb k spot))

-- ---- a walk over a class: each place that it has passed meets Q
pub record Passing (ws : List ℕ) (c : ℕ) (Q : ℕ → Type 0) (at : ℕ) : Type 0 where
  pub standing : Standing ws c at
  pub passed : (k : ℕ) → at ≤ k → InClass ws c k → Q k

module _ (ws next : List ℕ) (c : ℕ) (Q : ℕ → Type 0) where
  pub pass_start : (from : ℕ) → Chain ws next c from → Passing ws c Q from
  pass_start from r = record { standing = walk_start ws next c from r; passed = λ k a q. absurd (r.head.none k a q.within q) }

  pub pass_next : (at spot on : ℕ) → Links ws next (length ws) → WalksOn next at (Some spot) on → Passing ws c Q at → Q spot → Passing ws c Q on
  pass_next at spot on l s r h =
      record {
        standing = walk_next ws next c at spot on l s r.standing;
        passed = λ k a q. ⊎_elim (λ e. rw e h) (λ d. r.passed k (walk_seen ws next c at spot on l s r.standing k a q d) q) (equal k spot);
      }

module _ (ws : List ℕ) (c : ℕ) (Q : ℕ → Type 0) where
  pub pass_end : Passing ws c Q 0 → Each ws c Q
  unfolding Each
  pass_end r i q = r.passed i (omega arith) q

  pub pass_fails : (i : ℕ) → InClass ws c i → (Q i → ⊥) → Each ws c Q → ⊥
  unfolding Each
  pass_fails i q n all = n (all i q)
