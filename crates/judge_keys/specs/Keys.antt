-- Keys by class: no key twice in a map, two maps that are the same, and slots that hold what the walker has (docs/MACHINE.md, 4).
-- A table's filled places are chained by the class of their keys, and within a class a key has a place of its own.
use Rattle.std.specs.Prelude.{ℕ, suc, ◌+◌, ◌*◌, ◌/◌, ◌%◌, ◌≤◌, ◌<◌, Bool, true, false, List, Option, MatchOption, ◌⊎◌, ◌≡◌, length, get_or}
use Rattle.numbers.specs.Decides.{Decides}
use Rattle.numbers.specs.Limits.{VMS}
use Rattle.numbers.specs.Packing.{GUEST_FIELD, port_of, vm_of, guest_of, entry_of, filled_of, key_of, address_of, map_word}
use Rattle.table.specs.Table.{Has, Distinct, lookup}
use Rattle.model.specs.Valid.{SameMap}

-- ---- the numbers of the index, under the names that the code has for them
-- places of a class: the low bits of a guest page
abbrev pub PLACES : ℕ
PLACES = 1024

-- classes of keys: a VM and the high bits of a guest page, so that the two of a map's word tell its key
abbrev pub CLASSES : ℕ
CLASSES = VMS * GUEST_FIELD / PLACES

-- a link is a number of 16 bits, one more than a place, or 0: a table that can be chained has fewer places than this
abbrev pub LINKS : ℕ
LINKS = 65536

-- ---- a word's class, and its place in the class: half an address is VM and guest page
unfoldable pub class_of : ℕ → ℕ
class_of w = address_of w / 2 / PLACES % CLASSES

unfoldable pub low_of : ℕ → ℕ
low_of w = address_of w / 2 % PLACES

-- the map's word that a slot holds: the slot's own, without its port
abbrev pub map_word_of : ℕ → ℕ
map_word_of w = map_word (vm_of w) (guest_of w) (entry_of w)

-- ---- what is known of the words before they are compared: a map's are packed, and slots may have any port and VM
pub record PackedWord (w : ℕ) : Type 0 where
  pub port : port_of w ≡ 0
  pub filled : filled_of w ≡ 1
  pub vm : vm_of w < VMS

unfoldable pub Packed : List ℕ → Type 0
Packed ws = (w : ℕ) → Has ws w → PackedWord w

unfoldable pub Filled : List ℕ → Type 0
Filled ws = (w : ℕ) → Has ws w → filled_of w ≡ 1

-- ---- what is decided
-- rule 6, of the keys: none twice in either map, and the two are the same map
pub record Agreement (map walker : List ℕ) : Type 0 where
  pub map-once : Distinct key_of map
  pub walker_once : Distinct key_of walker
  pub same : SameMap map walker

-- rule 7, of the keys: each slot holds the walker's entry, and none is there twice
pub record SlotsHeld (walker cache : List ℕ) : Type 0 where
  pub each : (w : ℕ) → Has cache w → lookup key_of walker (address_of w) ≡ map_word_of w
  pub once : Distinct key_of cache

-- what all classes tell of slots: no key is twice in the map, and each slot holds the map's entry
pub record Held (slots map : List ℕ) : Type 0 where
  pub once : Distinct key_of map
  pub each : (w : ℕ) → Has slots w → lookup key_of map (address_of w) ≡ map_word_of w

-- ---- the same for one class
-- a filled place of class c
pub record InClass (ws : List ℕ) (c i : ℕ) : Type 0 where
  pub within : i < length ws
  pub filled : get_or ws i 0 ≡ 0 → ⊥
  pub class : class_of (get_or ws i 0) ≡ c

-- each place of class c meets Q
unfoldable pub Each : List ℕ → ℕ → (ℕ → Type 0) → Type 0
Each ws c Q = (i : ℕ) → InClass ws c i → Q i

unfoldable pub ClassOnce : List ℕ → ℕ → Type 0
ClassOnce ws c = (i j : ℕ) → i < j → InClass ws c i → InClass ws c j → low_of (get_or ws i 0) ≡ low_of (get_or ws j 0) → ⊥

-- the map has each word of another, or the word that each slot holds
abbrev pub ClassWithin : List ℕ → List ℕ → ℕ → Type 0
ClassWithin some map c = Each some c (λ i. Has map (get_or some i 0))

abbrev pub SlotsWithin : List ℕ → List ℕ → ℕ → Type 0
SlotsWithin slots map c = Each slots c (λ i. Has map (map_word_of (get_or slots i 0)))

pub record ClassAgree (map walker : List ℕ) (c : ℕ) : Type 0 where
  pub map-once : ClassOnce map c
  pub walker_once : ClassOnce walker c
  pub map-within : ClassWithin map walker c
  pub walker_within : ClassWithin walker map c

pub record ClassHeld (slots map : List ℕ) (c : ℕ) : Type 0 where
  pub once : ClassOnce map c
  pub each : SlotsWithin slots map c

-- ---- one place: its key is that of an empty one, or no place before it has it
unfoldable pub NewKey : List ℕ → ℕ → Type 0
NewKey ws j = (i : ℕ) → i < j → key_of (get_or ws i 0) ≡ key_of (get_or ws j 0) → key_of (get_or ws j 0) ≡ 0

-- ---- chains
-- r is one more than the last place of class c before i, 0 where there is none
pub record Last (ws : List ℕ) (c i r : ℕ) : Type 0 where
  pub below : r ≤ i
  pub on : (p : ℕ) → r ≡ suc p → InClass ws c p
  pub none : (k : ℕ) → r ≤ k → k < i → InClass ws c k → ⊥

-- each filled place before i says the last one before it of its class
pub record Links (ws next : List ℕ) (i : ℕ) : Type 0 where
  pub within : i ≤ length ws
  pub places : length next ≡ length ws
  pub nexts : (j : ℕ) → j < i → (get_or ws j 0 ≡ 0 → ⊥) → Last ws (class_of (get_or ws j 0)) j (get_or next j 0)

-- and each class its last place before i
pub record Chained (ws head next : List ℕ) (i : ℕ) : Type 0 where
  pub links : Links ws next i
  pub classes : length head ≡ CLASSES
  pub heads : (c : ℕ) → c < CLASSES → Last ws c i (get_or head c 0)

-- the chain of class c begins at `from`
pub record Chain (ws next : List ℕ) (c from : ℕ) : Type 0 where
  pub links : Links ws next (length ws)
  pub head : Last ws c (length ws) from

-- a walk along the links stands at a filled place, or has come to the end
abbrev pub Stands : List ℕ → ℕ → Type 0
Stands ws at = (p : ℕ) → at ≡ p + 1 → (p < length ws) × (get_or ws p 0 ≡ 0 → ⊥)

-- a step of it gives the place where it stands, and goes on to what is linked there
abbrev pub WalksOn : List ℕ → ℕ → Option ℕ → ℕ → Type 0
WalksOn next at r on = MatchOption r (at ≡ 0) (λ p. (at ≡ p + 1) × (on ≡ get_or next p 0))

-- ---- the table of places
pub record Blank (place : List ℕ) : Type 0 where
  pub size : length place ≡ PLACES
  pub zero : (l : ℕ) → l < PLACES → get_or place l 0 ≡ 0

-- whatever stands in it is one more than a place of the map
pub record Inside (map place : List ℕ) : Type 0 where
  pub size : length place ≡ PLACES
  pub within : (l p : ℕ) → l < PLACES → get_or place l 0 ≡ suc p → p < length map

-- where the word is looked for stands a place that has it
pub record Shown (map place : List ℕ) (w : ℕ) : Type 0 where
  pub spot : ℕ
  pub there : get_or place (low_of w) 0 ≡ suc spot
  pub holds : get_or map spot 0 ≡ w

-- whatever stands in it is one more than a place of class c that meets P
pub record Shows (ws : List ℕ) (c : ℕ) (P : ℕ → Type 0) (place : List ℕ) : Type 0 where
  pub size : length place ≡ PLACES
  pub only : (l p : ℕ) → l < PLACES → get_or place l 0 ≡ suc p → InClass ws c p × (low_of (get_or ws p 0) ≡ l) × P p

-- the places of class c from `at` on stand in it, and no other
pub record Entered (ws : List ℕ) (c at : ℕ) (place : List ℕ) : Type 0 where
  pub shows : Shows ws c (λ p. at ≤ p) place
  pub there : (k : ℕ) → at ≤ k → InClass ws c k → get_or place (low_of (get_or ws k 0)) 0 ≡ suc k

-- from `at` on the walker has no word with the low bits of the map's place p, or has the word of it
abbrev pub Unseen : List ℕ → List ℕ → ℕ → ℕ → ℕ → Type 0
Unseen map walker c at p = (j : ℕ) → at ≤ j → InClass walker c j → low_of (get_or walker j 0) ≡ low_of (get_or map p 0) → ⊥

abbrev pub Seen : List ℕ → List ℕ → ℕ → ℕ → ℕ → Type 0
Seen map walker c at p = (j : ℕ) × (at ≤ j) × InClass walker c j × (get_or walker j 0 ≡ get_or map p 0)

-- the map's places stand in it but for those whose words the walker has from `at` on, each once
pub record Matched (map walker : List ℕ) (c at : ℕ) (place : List ℕ) : Type 0 where
  pub shows : Shows map c (Unseen map walker c at) place
  pub there : (k : ℕ) → InClass map c k → (get_or place (low_of (get_or map k 0)) 0 ≡ suc k) ⊎ Seen map walker c at k
  pub within : (j : ℕ) → at ≤ j → InClass walker c j → Has map (get_or walker j 0)
  pub once : (i j : ℕ) → at ≤ i → i < j → InClass walker c i → InClass walker c j → low_of (get_or walker i 0) ≡ low_of (get_or walker j 0) → ⊥

-- nothing of the class stands in it
abbrev pub NoneLeft : List ℕ → ℕ → List ℕ → Type 0
NoneLeft ws c place = Each ws c (λ i. get_or place (low_of (get_or ws i 0)) 0 ≡ 0)

-- ---- what the walks and the tests answer
-- entering a chain: whether no key is there twice
pub record Entering (ws : List ℕ) (c : ℕ) (place : List ℕ) (r : Bool) : Type 0 where
  pub entered : r ≡ true → Entered ws c 0 place
  pub twice : r ≡ false → ClassOnce ws c → ⊥

-- taking the walker's words out again: whether each was there
pub record Taking (map walker : List ℕ) (c : ℕ) (place : List ℕ) (r : Bool) : Type 0 where
  pub matched : r ≡ true → Matched map walker c 0 place
  pub differs : r ≡ false → ClassAgree map walker c → ⊥

-- the test of a class, which leaves the table of places as it was lent
pub record Tested (P : Type 0) (place : List ℕ) (r : Bool) : Type 0 where
  pub answer : Decides r P
  pub blank : r ≡ true → Blank place
