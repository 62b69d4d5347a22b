-- The laws of the definitions.
-- a node that is put: put_four; what it makes of the nodes before it: join, timed_alone, timed_text, added_first, added_later
pub mod NodeLaws
-- bytes copied to the beginning of others: copied_all
pub mod Copies
-- the transitions of a vertex as the loop has them: loop_turn, loop_end; sums and texts as they are written: sum_none,
-- sum_over, sum_item, sum_done, sum_dead, text_done; where there is no room: full_at_action, full_at_text, full_at_end,
-- no_text, no_left, no_right
pub mod WriterLaws
-- the start has a text, start_text_lem; its table passes 10 to 12, text_passes; no other bytes are its table, one_table
pub mod StartTexts
-- the call answers and leaves what document 02 says, both ways: extraction_says
pub mod ExtractionCalls
