mod Products
