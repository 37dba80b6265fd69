-- Opens every definition of the machine, so that a claim about a given state is settled by computing it.
use Prim.{Unit, tt}
use Rattle.table.specs.Table.{lowest_free, free_entries, find, lookup, place, put, erase}
use Rattle.pages.specs.Bits.{contains, insert, delete}
use Rattle.pages.specs.Pour.{pour, emptied}
use Rattle.pages.specs.Rows.{held_for_dma, is_free, free_count, lowest_free as rows-lowestFree}
use Rattle.units.specs.Units.{assignable}
use Rattle.model.specs.Views.{knows, claimed_elsewhere, has_pages, shares, edge_on, edge_of, paired, targeted, has_mappings, may_map, on_port}
use Rattle.model.specs.Effect.{word_in, clear_page, stored, loaded, cleared_pages, apply, decided}
use Rattle.model.specs.Ledger.{add_vm_answer, remove_vm_answer, assign_answer, assign_sets, reclaim_answer, reclaim_sets, reclaim_clears, share_answer, share_pairs, unshare_answer, unshare_pairs}
use Rattle.model.specs.Maps.{matching_slots, without_slots, map_may, map_answer, map_table, unmap_may, unmap_answer, unmap_table}
use Rattle.model.specs.Regions.{insert_answer, insert_sets, insert_table, remove_may, remove_answer, remove_sets, remove_table, remove_clears}
use Rattle.model.specs.Ports.{port_answer, fill_answer, fill_place, fill_cache, fill_hand, empty_answer}
use Rattle.model.specs.Access.{translate, access_answer}
use Rattle.model.specs.Retire.{goes, retire_may, retire_dropped, retire_answer, retire_table, retire_pairs, retire_sets, retire_clears}
use Rattle.model.specs.Step.{control, step}
use Rattle.model.specs.Start.{start_answer, fresh_state, empty_state, start, free}
use Rattle.model.specs.Sequence.{operation_in, step_row, after, shape_answer, sequence}

-- whoever unfolds this unfolds all of them
unfoldable pub computes : Unit {0}
unfolding lowest_free free_entries find lookup place put erase contains insert delete pour emptied held_for_dma is_free free_count rows-lowestFree assignable knows claimed_elsewhere has_pages shares edge_on edge_of paired targeted has_mappings may_map on_port word_in clear_page stored loaded cleared_pages apply decided add_vm_answer remove_vm_answer assign_answer assign_sets reclaim_answer reclaim_sets reclaim_clears share_answer share_pairs unshare_answer unshare_pairs matching_slots without_slots map_may map_answer map_table unmap_may unmap_answer unmap_table insert_answer insert_sets insert_table remove_may remove_answer remove_sets remove_table remove_clears port_answer fill_answer fill_place fill_cache fill_hand empty_answer translate access_answer goes retire_may retire_dropped retire_answer retire_table retire_pairs retire_sets retire_clears control step start_answer fresh_state empty_state start free operation_in step_row after shape_answer sequence
computes = tt
