mod Inside
