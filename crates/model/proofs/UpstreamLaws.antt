-- What the views show of words, keys and pairs.
use Prim.Native.Nat.{ℕ, ◌+◌, ◌*◌, ◌/◌, ◌<◌, ◌%◌}
use mathlib.Core.Bool.{Bool, true, false, not, ◌&&◌, ◌||◌, true≢false, or-true}
use mathlib.Core.List.{List}
use mathlib.Core.Logic.{◌⊎◌, inl, inr, ⊎_elim}
use Rattle.std.specs.Prelude.{Option, None, Some}
use mathlib.Core.Path.{◌≡◌, refl, sym, ap, ◌∙◌}
use native.Mathlib.Omega.{arith}
use lib.Dec.{eqb}
use lib.ListN.{get_or}
use borrow.Author.Tests.{eqb-true, eqb-false, eq-eqb, ne_eqb, not-true}
use Rattle.numbers.specs.CaseLaws.{cases, equal}
use Rattle.std.specs.Prelude.{if◌then◌else◌}
use Rattle.numbers.specs.Limits.{VMS, GUEST_PAGES, PAGES, ACCESSES, READ, WRITE}
use Rattle.numbers.specs.Packing.{key, key_of, slot_key, address_of, pair_key, port_of, vm_of, guest_of, entry_of, filled_of, page_of, access_of, generation_of, VM_FIELD, GUEST_FIELD, PAGE_FIELD}
use Rattle.numbers.specs.PackingLaws.{pair_either, pair_same, key_same}
use Rattle.table.specs.Scan.{cleared, wipe}
use Rattle.table.specs.ScanLaws.{found_never, cleared_empty}
use Rattle.table.specs.Table.{find, lookup, place, put, erase, is_found, word_at, Has, Distinct}
use Rattle.table.specs.TableLaws.{find_none, lookup_has, lookup_nothing, lookup_put_same, lookup_put_other, lookup_erase_same, lookup_erase_other}
use Rattle.table.specs.AgreeLaws.{lookup_wipe}
use Rattle.model.specs.EarlyLaws.{both}
use Rattle.model.specs.Upstream.{AccessPerms, S2Entry, perms_of, entry_in, seen, map_seen, is_some}
use Rattle.model.specs.UpstreamStep.{is_edge}
use Rattle.model.proofs.ViewLaws.{either, not_so}

-- ---- words
pub seen_some : (w : ℕ) (e : S2Entry) → seen w ≡ Some e → (w ≡ 0 → ⊥) × (entry_in w ≡ e)
unfolding seen
seen_some w e q =
    ⊎_elim (λ t. absurd (let z : None ≡ Some e = rw t at q in let u : ◌≡◌ {A = ℕ} 0 1 = cc in omega arith))
    (λ f. (eqb-false w 0 f, let z : Some (entry_in w) ≡ Some e = rw f at q in cc))
    (cases (eqb w 0))

pub seen_is : (w : ℕ) → (w ≡ 0 → ⊥) → seen w ≡ Some (entry_in w)
unfolding seen
seen_is w n = rw (ne_eqb w 0 n)

pub seen_filled : (w : ℕ) → is_some (seen w) ≡ not (eqb w 0)
unfolding seen
seen_filled w = ⊎_elim (λ t. rw t) (λ f. rw f) (cases (eqb w 0))

-- ---- keys
module _ (key_of : ℕ → ℕ) (empty : key_of 0 ≡ 0) where
  -- a key is there exactly where lookup gives a word
  pub found_looked : (ws : List ℕ) (k : ℕ) → 0 < k → is_found (find key_of ws k) ≡ not (eqb (lookup key_of ws k) 0)
  unfolding lookup
  found_looked ws k o = go (find key_of ws k) refl
    where
      go : (f : Option ℕ) → find key_of ws k ≡ f → is_found f ≡ not (eqb (word_at ws f) 0)
      go (Some i) q = ⊎_elim (λ t. absurd (found_never i (sym q ∙ lookup_nothing key_of empty ws k o (rw q (eqb-true _ _ t))))) (λ f. rw f) (cases (eqb (get_or ws i 0) 0))
      go None q = refl

  -- and so after a word is put, or a key erased
  pub found_put_same : (ws : List ℕ) (k w i : ℕ) → 0 < k → key_of w ≡ k → place key_of ws k ≡ Some i → is_found (find key_of (put key_of ws k w) k) ≡ true
  found_put_same ws k w i o e p =
      let n : w ≡ 0 → ⊥ = λ z. let q : 0 ≡ k = sym empty ∙ rw z at e in omega arith in
      found_looked (put key_of ws k w) k o ∙ rw (lookup_put_same key_of ws k w i e p, ne_eqb w 0 n)

  pub found_put_other : (ws : List ℕ) (k w other : ℕ) → key_of w ≡ k → 0 < other → (k ≡ other → ⊥) →
      is_found (find key_of (put key_of ws k w) other) ≡ is_found (find key_of ws other)
  found_put_other ws k w other e o n = found_looked (put key_of ws k w) other o ∙ rw (lookup_put_other key_of empty ws k w other e o n) (sym (found_looked ws other o))

  pub found_erase_same : (ws : List ℕ) (k : ℕ) → 0 < k → is_found (find key_of (erase key_of ws k) k) ≡ false
  found_erase_same ws k o = found_looked (erase key_of ws k) k o ∙ rw (lookup_erase_same key_of empty ws k o)

  pub found_erase_other : (ws : List ℕ) (k other : ℕ) → 0 < other → (k ≡ other → ⊥) → is_found (find key_of (erase key_of ws k) other) ≡ is_found (find key_of ws other)
  found_erase_other ws k other o n = found_looked (erase key_of ws k) other o ∙ rw (lookup_erase_other key_of empty ws k other o n) (sym (found_looked ws other o))

  pub found_has : (ws : List ℕ) (k : ℕ) → 0 < k → is_found (find key_of ws k) ≡ true → Has ws (lookup key_of ws k) × (key_of (lookup key_of ws k) ≡ k)
  found_has ws k o t = lookup_has key_of ws k (λ z. true≢false (sym t ∙ found_looked ws k o ∙ rw z))

  pub has_found : (ws : List ℕ) (w : ℕ) → Has ws w → is_found (find key_of ws (key_of w)) ≡ true
  has_found ws w r = go (find key_of ws (key_of w)) refl
    where
      go : (f : Option ℕ) → find key_of ws (key_of w) ≡ f → is_found f ≡ true
      go (Some i) q = refl
      go None q = absurd (find_none key_of ws (key_of w) q r.spot r.within (rw r.holds))

-- ---- wipes
wiped_word : (p : ℕ → Bool) (w : ℕ) (gone : Bool) → ((w ≡ 0 → ⊥) → p w ≡ gone) → seen (cleared p w) ≡ (if gone then None else seen w)
unfolding seen
wiped_word p w gone same = ⊎_elim empty (λ n. rw (same n) (⊎_elim (λ t. rw t) (λ f. rw f) (cases gone))) (equal w 0)
  where
    empty : w ≡ 0 → seen (cleared p w) ≡ (if gone then None else seen w)
    empty z = rw z (ap seen (cleared_empty p) ∙ ⊎_elim (λ t. rw t) (λ f. rw f) (cases gone))

-- what a key shows is gone where its word goes
pub wiped_seen : (p : ℕ → Bool) (table : List ℕ) (k : ℕ) (gone : Bool) → 0 < k → Distinct key_of table →
    (Has table (lookup key_of table k) → key_of (lookup key_of table k) ≡ k → p (lookup key_of table k) ≡ gone) →
    seen (lookup key_of (wipe p table) k) ≡ (if gone then None else seen (lookup key_of table k))
wiped_seen p table k gone o once same =
    ap seen (lookup_wipe key_of refl p table k o once) ∙ wiped_word p (lookup key_of table k) gone (λ n. let (h, e) = lookup_has key_of table k n in same h e)

pub none_either : {A : Type 0} (a b : Bool) (x : Option A) → (if a || b then None else x) ≡ (if a then None else if b then None else x)
none_either true b x = refl
none_either false b x = refl

-- ---- words of a key
-- a word of a map's key has its VM and guest page, and one of a slot's key its port too
pub record OfKey (w port vm gpa : ℕ) : Type 0 where
  pub port_is : port_of w ≡ port
  pub vm_is : vm_of w ≡ vm
  pub guest_is : guest_of w ≡ gpa
  pub address_is : address_of w ≡ key vm gpa

pub of_slot_key : (w port vm gpa : ℕ) → vm < VMS → gpa < GUEST_PAGES → key_of w ≡ slot_key port vm gpa → OfKey w port vm gpa
of_slot_key w port vm gpa v g e =
    let a : w / 4294967296 ≡ (port * 256 + vm) * 65536 + gpa = omega arith in
    let b : w / 281474976710656 ≡ port * 256 + vm = omega arith in
    record { port_is = omega arith; vm_is = omega arith; guest_is = omega arith; address_is = omega arith }

pub of_key : (w vm gpa : ℕ) → vm < VMS → gpa < GUEST_PAGES → key_of w ≡ key vm gpa → OfKey w 0 vm gpa
of_key w vm gpa v g e = of_slot_key w 0 vm gpa v g (e ∙ omega arith)

-- a filled word's key is made of its parts
pub key_parts : (w : ℕ) → filled_of w ≡ 1 → key_of w ≡ slot_key (port_of w) (vm_of w) (guest_of w)
key_parts w f =
    let a : w / 2147483648 / 2 ≡ w / 4294967296 = omega arith in
    let b : w / 4294967296 / 65536 ≡ w / 281474976710656 = omega arith in
    let c : w / 281474976710656 / 256 ≡ port_of w = omega arith in
    omega arith

-- two slot keys are one where their three parts are
pub slot_key_same : (port vm gpa port' vm' gpa' : ℕ) → vm < VM_FIELD → vm' < VM_FIELD → gpa < GUEST_PAGES → gpa' < GUEST_PAGES → slot_key port vm gpa ≡ slot_key port' vm' gpa' →
    (port ≡ port') × (vm ≡ vm') × (gpa ≡ gpa')
slot_key_same port vm gpa port' vm' gpa' v v' g g' e =
    let a : (port * 256 + vm) * 65536 + gpa ≡ (port' * 256 + vm') * 65536 + gpa' = omega arith in
    let b : port * 256 + vm ≡ port' * 256 + vm' = omega arith in
    (omega arith, omega arith, omega arith)

-- ---- pairs
-- the same pair, in one order of its ends or the other
abbrev pub SamePair : ℕ → ℕ → ℕ → ℕ → ℕ → ℕ → Type 0
SamePair left right page l r p = ((left ≡ l) × (right ≡ r) × (page ≡ p)) ⊎ ((left ≡ r) × (right ≡ l) × (page ≡ p))

pub pair_ends : (left right page l r p : ℕ) → left < GUEST_FIELD → right < GUEST_FIELD → page < PAGE_FIELD → l < GUEST_FIELD → r < GUEST_FIELD → p < PAGE_FIELD → pair_key left right page ≡ pair_key l r p →
    SamePair left right page l r p
pair_ends left right page l r p a b c a' b' c' e =
    let (same, low, high) = pair_same left right page l r p a b c a' b' c' e in
    ⊎_elim (λ q. inl (q, omega arith, same)) (λ q. inr (omega arith, omega arith, same)) (equal left l)

-- ---- entries
-- the three flags tell the access
flag_same : (c d : ℕ) → c < 2 → d < 2 → eqb c 1 ≡ eqb d 1 → c ≡ d
flag_same c d h h' e =
    ⊎_elim (λ t. eqb-true c 1 t ∙ sym (eqb-true d 1 (sym e ∙ t))) (λ f. let m = eqb-false c 1 f in let n = eqb-false d 1 (sym e ∙ f) in omega arith) (cases (eqb c 1))

flags : (a : ℕ) → a < ACCESSES → a ≡ a / 4 % 2 * 4 + a / WRITE % 2 * 2 + a / READ % 2
flags a h = omega arith

pub perms_apart : (a b : ℕ) → a < ACCESSES → b < ACCESSES → perms_of a ≡ perms_of b → a ≡ b
perms_apart a b h h' e =
    let r = flag_same (a / READ % 2) (b / READ % 2) (omega arith) (omega arith) (ap (λ (x : AccessPerms). x.read) e) in
    let w = flag_same (a / WRITE % 2) (b / WRITE % 2) (omega arith) (omega arith) (ap (λ (x : AccessPerms). x.write) e) in
    let x = flag_same (a / 4 % 2) (b / 4 % 2) (omega arith) (omega arith) (ap (λ (x : AccessPerms). x.execute) e) in
    flags a h ∙ rw (r, w, x) (sym (flags b h'))

-- what a word shows depends on its low half alone
entry_low : (w : ℕ) → entry_in w ≡ entry_in (entry_of w)
entry_low w =
    let p : page_of w ≡ page_of (entry_of w) = omega arith in
    let a : access_of w ≡ access_of (entry_of w) = omega arith in
    let g : generation_of w ≡ generation_of (entry_of w) = omega arith in
    cc

pub entry_same : (w u : ℕ) → entry_of w ≡ entry_of u → entry_in w ≡ entry_in u
entry_same w u e = entry_low w ∙ rw e (sym (entry_low u))

pub seen_same : (w u : ℕ) → (w ≡ 0 → ⊥) → (u ≡ 0 → ⊥) → entry_of w ≡ entry_of u → seen w ≡ seen u
seen_same w u n m e = rw (seen_is w n, seen_is u m, entry_same w u e)

-- a key that a map shows is of a word in it
pub map-word : (table : List ℕ) (vm gpa : ℕ) → vm < VMS → gpa < GUEST_PAGES → is_some (map_seen table vm gpa) ≡ true →
    Has table (lookup key_of table (key vm gpa)) × OfKey (lookup key_of table (key vm gpa)) 0 vm gpa
map-word table vm gpa v g e =
    let w = lookup key_of table (key vm gpa) in
    let (h, k) = lookup_has key_of table (key vm gpa) (eqb-false w 0 (not-true _ (sym (seen_filled w) ∙ e))) in
    (h, of_key w vm gpa v g k)

-- ---- edges
edge_there : (left right page l r p : ℕ) → SamePair left right page l r p → (is_edge left right page l r p || is_edge right left page l r p) ≡ true
edge_there left right page l r p (inl q) = rw (eq-eqb l left (sym q.0), eq-eqb r right (sym q.1), eq-eqb p page (sym q.2))
edge_there left right page l r p (inr q) = rw (eq-eqb l right (sym q.1), eq-eqb r left (sym q.0), eq-eqb p page (sym q.2)) (or-true (eqb l left && eqb r right && true))

edge_parts : (left right page l r p : ℕ) → is_edge left right page l r p ≡ true → (l ≡ left) × (r ≡ right) × (p ≡ page)
edge_parts left right page l r p e =
    let a = both (eqb l left && eqb r right) (eqb p page) e in
    let b = both (eqb l left) (eqb r right) a.0 in
    (eqb-true _ _ b.0, eqb-true _ _ b.1, eqb-true _ _ a.1)

-- an edge or its reverse is told by the pair's key
pub edge_key : (left right page l r p : ℕ) → left < VMS → right < VMS → page < PAGES → l < VMS → r < VMS → p < PAGES →
    (is_edge left right page l r p || is_edge right left page l r p) ≡ eqb (pair_key left right page) (pair_key l r p)
edge_key left right page l r p a b c a' b' c' = ⊎_elim same other (equal (pair_key left right page) (pair_key l r p))
  where
    goal : Type 0
    goal = (is_edge left right page l r p || is_edge right left page l r p) ≡ eqb (pair_key left right page) (pair_key l r p)

    same : pair_key left right page ≡ pair_key l r p → goal
    same e =
        rw (eq-eqb _ _ e)
        (edge_there left right page l r p (pair_ends left right page l r p (omega arith) (omega arith) (omega arith) (omega arith) (omega arith) (omega arith) e))

    other : (pair_key left right page ≡ pair_key l r p → ⊥) → goal
    other n =
        rw (ne_eqb _ _ n)
        (not_so _
        (λ t.
        ⊎_elim (λ e. let q = edge_parts left right page l r p e in n (rw (q.0, q.1, q.2)))
        (λ e. let q = edge_parts right left page l r p e in n (rw (q.0, q.1, q.2) (pair_either left right page)))
        (either _ _ t)))

-- ---- keys compared
-- a map's two keys are one where VM and guest page are; a slot's where the port is too
pub key_test : (vm gpa v g : ℕ) → gpa < GUEST_PAGES → g < GUEST_PAGES → (eqb v vm && eqb g gpa) ≡ eqb (key vm gpa) (key v g)
key_test vm gpa v g h h' = ⊎_elim same other (equal (key vm gpa) (key v g))
  where
    goal : Type 0
    goal = (eqb v vm && eqb g gpa) ≡ eqb (key vm gpa) (key v g)

    same : key vm gpa ≡ key v g → goal
    same e = let q = key_same vm gpa v g h h' e in rw (eq-eqb (key vm gpa) (key v g) e, eq-eqb v vm (sym q.0), eq-eqb g gpa (sym q.1))

    other : (key vm gpa ≡ key v g → ⊥) → goal
    other n =
        rw (ne_eqb (key vm gpa) (key v g) n)
        (not_so _ (λ t. let q = both (eqb v vm) (eqb g gpa) t in n (rw (eqb-true v vm q.0, eqb-true g gpa q.1))))

pub slot_key_test : (port vm gpa p v g : ℕ) → vm < VM_FIELD → v < VM_FIELD → gpa < GUEST_PAGES → g < GUEST_PAGES →
    (eqb p port && (eqb v vm && eqb g gpa)) ≡ eqb (slot_key port vm gpa) (slot_key p v g)
slot_key_test port vm gpa p v g l l' h h' = ⊎_elim same other (equal (slot_key port vm gpa) (slot_key p v g))
  where
    goal : Type 0
    goal = (eqb p port && (eqb v vm && eqb g gpa)) ≡ eqb (slot_key port vm gpa) (slot_key p v g)

    same : slot_key port vm gpa ≡ slot_key p v g → goal
    same e =
        let q = slot_key_same port vm gpa p v g l l' h h' e in
        rw (eq-eqb (slot_key port vm gpa) (slot_key p v g) e, eq-eqb p port (sym q.0), eq-eqb v vm (sym q.1), eq-eqb g gpa (sym q.2))

    other : (slot_key port vm gpa ≡ slot_key p v g → ⊥) → goal
    other n =
        rw (ne_eqb (slot_key port vm gpa) (slot_key p v g) n)
        (not_so _
        (λ t.
        let a = both (eqb p port) (eqb v vm && eqb g gpa) t in
        let q = both (eqb v vm) (eqb g gpa) a.1 in
        n (rw (eqb-true p port a.0, eqb-true v vm q.0, eqb-true g gpa q.1))))

-- a map shows a key where a search finds it
pub map_found : (table : List ℕ) (vm gpa : ℕ) → is_some (map_seen table vm gpa) ≡ is_found (find key_of table (key vm gpa))
map_found table vm gpa = seen_filled _ ∙ sym (found_looked key_of refl table (key vm gpa) (omega arith))

pub not_some : (o : Option S2Entry) → is_some o ≡ false → o ≡ None
not_some None e = refl
not_some (Some x) e = absurd (true≢false e)
